use Rattle.pressure.proofs.Greatest.{IsPrivateBelow}
use Rattle.pressure.proofs.pressure_of.private_pressure.Given as goal

abbrev pub invariant-lines : goal.invariant-lines
invariant-lines l = IsPrivateBelow l.code l.i l.greatest
