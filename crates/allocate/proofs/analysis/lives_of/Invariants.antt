use Rattle.std.proofs.Common.{◌≡◌, length}
use Rattle.liveness.specs.Lives.{IsLiveOf}
use Rattle.allocate.specs.Items.{Covers}
use Rattle.allocate.proofs.analysis.lives_of.Given as goal

abbrev pub invariant-loop-c : goal.invariant-loop-c
invariant-loop-c l = (length l.lives ≡ l.c) × Covers IsLiveOf l.programs l.lives
