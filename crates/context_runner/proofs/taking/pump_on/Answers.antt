use Rattle.context_runner.specs.Sharing.{beginning}
use Rattle.context_runner.proofs.SharedTurns.{pump_from}
use Rattle.context_runner.proofs.taking.pump_on.Goals as goal

pub returns-clause-told : goal.returns-clause-told
returns-clause-told g c =
    let take = c.take_on-held in
    pump_from (beginning c.args.baton.now.table.shared.key.value.value) c.pump_held.result c.args.pass.now.seat.me.0 take.new.pass.seat.me.0 c.pump_held.new.pass.seat.me.0 take.result.value.run.entries take.ensures.taken c.pump_held.ensures.told
