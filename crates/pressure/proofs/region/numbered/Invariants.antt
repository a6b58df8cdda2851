use Rattle.std.proofs.Common.{◌≤◌}
use Rattle.pressure.specs.Floods.{AreNumbered}
use Rattle.pressure.proofs.region.numbered.Given as goal

abbrev pub invariant-places : goal.invariant-places
invariant-places l = record {
  numbered : AreNumbered l.code l.i l.count l.numbers;
  few : l.count ≤ l.i;
}
