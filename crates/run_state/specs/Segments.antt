-- What every segment leaves or brings on, whatever its instructions do.
use Rattle.std.specs.Prelude.{◌≡◌, ◌<◌, ◌≤◌, ℕ, List, length, false}
use Rattle.world.specs.WorldState.{has_open_input}
use Rattle.world.specs.declared.event.Seen.{Seen}
use Rattle.semantics.specs.Core.{Core, completion, completed}
use Rattle.semantics.specs.Events.{Config, given, after_stretch}
use Rattle.semantics.specs.Stretches.{Kind, ActiveContext, stretch_of}

-- a segment that the bound did not cut spent a step; the bound, the contexts and the open inputs stay as they were
pub record GoesOn (before after : Core) : Type 0 where
  pub spent : after.over ≡ false → before.steps < after.steps
  pub within : after.steps ≤ after.world.bound
  pub bound : after.world.bound ≡ before.world.bound
  pub contexts : length after.phases ≡ length before.phases
  pub inputs : has_open_input after.world ≡ has_open_input before.world

-- a segment of one context: the completion, the stretch of its code, and what the world does at its end
abbrev pub segment_of : {L R V : Type 0} → Kind L R V → ℕ → List L → Core → ActiveContext R V → Config (ActiveContext R V) × Seen
segment_of kind c code core x =
    after_stretch (completed core c) c (completion core c) (stretch_of kind c code (given core c) x)
