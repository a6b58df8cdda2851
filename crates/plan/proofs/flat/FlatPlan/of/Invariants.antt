use Rattle.std.proofs.Common.{◌≡◌, take}
use Rattle.plan.proofs.flat.FlatPlan.of.Given as goal

abbrev pub invariant-rows : goal.invariant-rows
invariant-rows l = l.flat ≡ record { p = l.plan.p; r = l.plan.r; rows = take l.row-index l.plan.rows }
