use Rattle.plan.specs.Faults.{AreValidBelow}
use Rattle.plan.proofs.check.check_rows.Given as goal

abbrev pub invariant-rows : goal.invariant-rows
invariant-rows l = AreValidBelow l.code l.p l.r l.rows l.i
