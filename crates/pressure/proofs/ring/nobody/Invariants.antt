use Rattle.pressure.specs.Rings.{IsNobody}
use Rattle.pressure.proofs.ring.nobody.Given as goal

abbrev pub invariant-places : goal.invariant-places
invariant-places l = IsNobody l._place l.list.items
