use Rattle.allocate.proofs.Still.{still_falls}
use Rattle.plan_cases.proofs.settled.by_jumps.Goals as goal

pub jump_glues-requires-clause-falls : goal.jump_glues-requires-clause-falls
jump_glues-requires-clause-falls c = still_falls c.args.program.now.code c.args.route.now.plan c.requires.closed c.requires.valid (c.requires.settled c.if-route.true)
