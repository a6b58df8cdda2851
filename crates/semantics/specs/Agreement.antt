-- What a run shows, and when two runs show the same.
use Rattle.std.specs.Prelude.{◌≡◌, ℕ, List, Option, option_map}
use Rattle.micro_isa.specs.declared.program.Bundle.{Bundle}
use Rattle.micro_isa.specs.declared.image.Image.{Image}
use Rattle.world.specs.declared.event.Event.{Event}
use Rattle.world.specs.declared.event.Seen.{Seen}
use Rattle.world.specs.declared.event.View.{View}
use Rattle.world.specs.declared.event.End.{End}
use Rattle.semantics.specs.Core.{shown_core, ending_of}
use Rattle.semantics.specs.Events.{Config, run}
use Rattle.semantics.specs.Source.{source_semantics, source_open}
use Rattle.semantics.specs.Machine.{machine_semantics, machine_open}

-- what may be seen of a run: memory, channels, outputs, steps and phases; how it ended, if it did; and what was seen of
-- each event. No place, address or register
pub record Shown : Type 0 where
  pub view : View
  pub ending : Option End
  pub seen : List Seen

abbrev pub shown_config : {X : Type 0} → Config X × List Seen → Shown
shown_config r = record { view = shown_core (r.0).core; ending = ending_of (r.0).core; seen = r.1 }

abbrev pub shown : {X : Type 0} → Option (Config X × List Seen) → Option Shown
shown o = option_map shown_config o

-- both are undefined, or both are defined and show the same
abbrev pub Agree : {X Y : Type 0} → Option (Config X × List Seen) → Option (Config Y × List Seen) → Type 0
Agree a b = shown a ≡ shown b

-- the image does what the bundle does, for every bound and every list of events
pub record Implements (m : Image) (b : Bundle) : Type 0 where
  pub same : (bound : ℕ) (es : List Event) →
      Agree (run (machine_semantics m) (machine_open m bound) es) (run (source_semantics b) (source_open b bound) es)
