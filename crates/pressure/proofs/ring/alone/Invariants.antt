use Rattle.pressure.specs.Rings.{IsAlone}
use Rattle.pressure.proofs.ring.alone.Given as goal

abbrev pub invariant-places : goal.invariant-places
invariant-places l = IsAlone l.i l.own.items
