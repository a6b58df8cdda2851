use Rattle.std.proofs.Common.{◌≡◌, take}
use Rattle.plan.proofs.flat.FlatPlan.to_plan.Given as goal

abbrev pub invariant-rows : goal.invariant-rows
invariant-rows l = l.rows ≡ take l.i l.self.rows
