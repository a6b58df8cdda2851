use Rattle.std.proofs.Common.{◌≡◌, List, false}
use Rattle.edge_moves.specs.MoveSteps.{Pair, is_source}
use Rattle.edge_moves.specs.ParallelMove.{AreDistinct}
use Rattle.edge_moves.specs.Tally.{Holds, left_of, filled, TakenBack}
use Rattle.edge_moves.proofs.taking.take_back.Given as goal

abbrev pub invariant-back : goal.invariant-back
invariant-back l =
    (pairs : List Pair) → AreDistinct pairs → Holds l.initial.sources (left_of l.initial.sources pairs) → is_source (left_of l.initial.sources pairs) l.fn.last.0 ≡ false
    → TakenBack pairs l.initial.sources l.fn.last.0 l.sources l.target.0

abbrev pub decreases-back : goal.decreases-back
decreases-back l = filled l.sources
