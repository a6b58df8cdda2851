use Rattle.std.proofs.Common.{◌≡◌, drop}
use Rattle.edge_moves.specs.MoveSteps.{target_of}
use Rattle.edge_moves.proofs.remaining.target_of.Given as goal

abbrev pub invariant-loop-source : goal.invariant-loop-source
invariant-loop-source l = target_of (drop l.source-index l.left) l.register.0 ≡ target_of l.left l.register.0
