-- What a turn of a context does with its ports.
use Rattle.std.specs.Prelude.{◌≡◌, ℕ, List, [], ◌∷◌, Option, Some, None, option_map, Bool, true, false, not, if◌then◌else◌, slice_set}
use Rattle.micro_isa.specs.declared.program.Channel.{Channel}
use Rattle.world.specs.declared.event.Entry.{Entry}
use Rattle.world.specs.declared.event.Entry.TheVariants as entry
use Rattle.world.specs.declared.event.Output.{Output}
use Rattle.world.specs.WorldState.{WorldState, is_plugged, after_unplug}
use Rattle.semantics.specs.Core.{Core}
use Rattle.ports.specs.declared.port.Given.{Given}
use Rattle.ports.specs.declared.port.Given.TheVariants as given
use Rattle.ports.specs.SlotsState.{SlotsState, has}
use Rattle.ports.specs.Tales.{Puts, Changes}
use Rattle.run_journal.specs.Keeping.{port_at}
use Rattle.run_journal.specs.declared.answers.Delivery.{Delivery}

-- each plugged channel has a port that is there
pub record Fits (chs : List Channel) (w : WorldState) (s : SlotsState) : Type 0 where
  pub there : (k : ℕ) → is_plugged w k ≡ true → (j : ℕ) × (port_at chs k ≡ Some j) × (has s j ≡ true)

-- the word that was put out, and the port that it goes to, if its channel is plugged
abbrev pub delivery : List Channel → WorldState → Option Output → Option Delivery
delivery chs w None = None
delivery chs w (Some o) =
    if is_plugged w o.channel then option_map (λ j. record { channel = o.channel; port = j; word = o.word }) (port_at chs o.channel) else None

-- a port is lost by a put that failed, but where the bound cut the segment
abbrev pub loses : Given → Bool → Bool
loses given.Took over = false
loses given.Failed over = not over

abbrev pub LeftBy : Bool → Core → Core → SlotsState → SlotsState → Delivery → List Entry → Type 0
LeftBy true before after slots slots' d lost =
    (after ≡ record before { world = after_unplug before.world d.channel })
    × (slots'.retired ≡ slice_set slots.retired d.port true)
    × (lost ≡ entry.Unplugged d.channel ∷ [])
LeftBy false before after slots slots' d lost = (after ≡ before) × (slots'.retired ≡ slots.retired) × (lost ≡ [])

-- a word was handed to its port; the port is lost, or nothing else changed
pub record HandedOver (before after : Core) (slots slots' : SlotsState) (d : Delivery) (lost : List Entry) : Type 0 where
  pub answer : Given
  pub told : Changes (λ a b. Puts a d.word answer b) slots.told d.port slots'.told
  pub left : LeftBy (loses answer before.over) before after slots slots' d lost

-- what was delivered, if anything
abbrev pub Delivers : Option Delivery → Core → Core → SlotsState → SlotsState → List Entry → Type 0
Delivers None before after slots slots' lost = (after ≡ before) × (slots' ≡ slots) × (lost ≡ [])
Delivers (Some d) before after slots slots' lost = HandedOver before after slots slots' d lost
