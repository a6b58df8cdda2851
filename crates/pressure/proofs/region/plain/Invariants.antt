use Rattle.pressure.specs.Floods.{ArePlainBelow}
use Rattle.pressure.proofs.region.plain.Given as goal

abbrev pub invariant-places : goal.invariant-places
invariant-places l = ArePlainBelow l.numbers l.i l.list
