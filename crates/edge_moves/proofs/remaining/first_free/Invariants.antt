use Rattle.std.proofs.Common.{◌≡◌, drop}
use Rattle.edge_moves.specs.MoveSteps.{first_free}
use Rattle.edge_moves.proofs.remaining.first_free.Given as goal

abbrev pub invariant-places : goal.invariant-places
invariant-places l = first_free l.left (drop l.i l.left) ≡ first_free l.left l.left
