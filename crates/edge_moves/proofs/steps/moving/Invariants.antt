use Rattle.std.proofs.Common.{◌≡◌, ◌++◌, drop}
use Rattle.edge_moves.specs.MoveSteps.{moving}
use Rattle.edge_moves.proofs.steps.moving.Given as goal

abbrev pub invariant-loop-pair : goal.invariant-loop-pair
invariant-loop-pair l = l.left.items ++ moving (drop l.pair-index l.pairs) ≡ moving l.pairs
