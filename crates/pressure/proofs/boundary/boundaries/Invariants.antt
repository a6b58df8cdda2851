use Rattle.pressure.proofs.Switching.{AreBoundariesBelow}
use Rattle.pressure.proofs.boundary.boundaries.Given as goal

abbrev pub invariant-lines : goal.invariant-lines
invariant-lines l = AreBoundariesBelow l.code l.i l.list
