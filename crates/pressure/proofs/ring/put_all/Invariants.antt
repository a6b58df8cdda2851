use Rattle.pressure.specs.Rings.{AreRings}
use Rattle.pressure.proofs.ring.put_all.Given as goal

abbrev pub invariant-lines : goal.invariant-lines
invariant-lines l = AreRings l.code l.jumps l.i l.own l.target
