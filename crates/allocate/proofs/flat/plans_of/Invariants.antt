use Rattle.std.proofs.Common.{◌≡◌, take}
use Rattle.allocate.proofs.flat.plans_of.Given as goal

abbrev pub invariant-loop-plan : goal.invariant-loop-plan
invariant-loop-plan l = l.plans ≡ take l.plan-index l.flat
