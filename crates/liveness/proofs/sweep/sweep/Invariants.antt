use Rattle.std.proofs.Common.{◌≡◌, ℕ, ◌<◌, ◌≤◌, length, false}
use Rattle.liveness.specs.Sweeps.{IsSweep, HasGrown, IsClosedAt}
use Rattle.liveness.proofs.sweep.sweep.Given as goal

abbrev pub invariant-visits : goal.invariant-visits
invariant-visits l = record {
  within : l.i ≤ length l.code;
  sweep : IsSweep l.code l.flow l.sets;
  grown : HasGrown l.initial.sets l.sets l.grew;
  still : l.grew ≡ false → (j : ℕ) → l.i ≤ j → j < length l.code → IsClosedAt l.code l.sets j;
}

abbrev pub decreases-visits : goal.decreases-visits
decreases-visits l = l.i
