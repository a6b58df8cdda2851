-- Events and runs, over what all meanings share. A semantics gives the registers and places.
use Rattle.std.specs.Prelude.{ℕ, List, [], ◌∷◌, Option, Some, None}
use Rattle.world.specs.declared.event.Event.{Event}
use Rattle.world.specs.declared.event.Event.TheVariants.{Run, Feed, Unplug}
use Rattle.world.specs.declared.event.Seen.{Seen}
use Rattle.world.specs.declared.event.Seen.TheVariants as seen
use Rattle.world.specs.declared.event.Illegal.{Illegal}
use Rattle.world.specs.WorldState.{after_feed, after_unplug}
use Rattle.semantics.specs.declared.SegmentExit.{SegmentExit}
use Rattle.semantics.specs.Core.{Core, Completed, completion, completed, steps_left, finished, end_after, illegal_of}

-- what a stretch of instructions is given: the word that its context receives, if any, the memory that it may read, and the
-- steps left
pub record Given : Type 0 where
  pub word : Option ℕ
  pub memory : List ℕ
  pub left : ℕ

-- what a stretch of instructions gives: the registers and places after it, the steps that it spent, and why it ended
pub record Stretch (X : Type 0) : Type 0 where
  pub state : X
  pub steps : ℕ
  pub why : SegmentExit

-- the registers and places of one kind of run: from a state, a context and what is given, the stretch of the context's
-- instructions up to the next stop
abbrev pub Semantics : Type 0 → Type 0
Semantics X = X → ℕ → Given → Stretch X

-- a configuration of a run: its core, and its registers and places
pub record Config (X : Type 0) : Type 0 where
  pub core : Core
  pub state : X

-- what a segment gives to its stretch: the word of the completion, and the memory and the steps left after it
abbrev pub given : Core → ℕ → Given
given core c = record {
  word = (completion core c).received;
  memory = (completed core c).world.memory;
  left = steps_left (completed core c);
}

-- a segment: the completion is done, then a stretch runs, and then the world does what the stretch ended with
abbrev pub after_stretch : {X : Type 0} → Core → ℕ → Completed → Stretch X → Config X × Seen
after_stretch core c done gone = (
  record { core = finished core c gone.steps gone.why; state = gone.state },
  seen.Ran (record { steps = gone.steps; end = end_after core.world.memory gone.why; sent = done.sent }),
)

-- an event that may happen
abbrev pub fire : {X : Type 0} → Semantics X → Config X → Event → Config X × Seen
fire rules m (Run c) =
    after_stretch (completed m.core c) c (completion m.core c) (rules m.state c (given m.core c))
fire rules m (Feed k word) =
    (record m { core = record m.core { world = after_feed m.core.world k word } }, seen.Fed)
fire rules m (Unplug k) =
    (record m { core = record m.core { world = after_unplug m.core.world k } }, seen.Unplugged)

abbrev pub unless_illegal : {A : Type 0} → Option Illegal → A → Option A
unless_illegal None a = Some a
unless_illegal (Some why) a = None

-- one event; none where it is illegal
abbrev pub step : {X : Type 0} → Semantics X → Config X → Event → Option (Config X × Seen)
step rules m e = unless_illegal (illegal_of m.core e) (fire rules m e)

abbrev pub after_first : {X : Type 0} → Seen → Option (Config X × List Seen) → Option (Config X × List Seen)
after_first s None = None
after_first s (Some r) = Some (r.0, s ∷ r.1)

abbrev pub run_on : {X : Type 0} → (Config X → Option (Config X × List Seen)) → Option (Config X × Seen) → Option (Config X × List Seen)
run_on rest None = None
run_on rest (Some r) = after_first r.1 (rest r.0)

-- a run: the last configuration and what is seen of each event; none from the first illegal event on
abbrev pub run : {X : Type 0} → Semantics X → Config X → List Event → Option (Config X × List Seen)
run rules m [] = Some (m, [])
run rules m (e ∷ es) = run_on (λ next. run rules next es) (step rules m e)
