use Rattle.context_runner.proofs.SharedTurns.{took_is}
use Rattle.context_runner.proofs.taking.take_on.Goals as goal

pub returns-in-Ok-clause-taken : goal.returns-in-Ok-clause-taken
returns-in-Ok-clause-taken g c =
    let i = c.loop.invariant in
    took_is c.args.pass.now.seat.me.0 c.loop.pass.seat.me.0 c.try_take.new.pass.seat.me.0 c.in-Ok.held.value.run.entries i.3 i.4 i.5 i.6 c.in-Ok.ensures.ok.0 c.in-Ok.ensures.ok.1
