use Rattle.std.proofs.Common.{◌≡◌, take}
use Rattle.emit.proofs.image.flattened.Given as goal

abbrev pub invariant-loop-plan : goal.invariant-loop-plan
invariant-loop-plan l = l.flat ≡ take l.plan-index l.plans
