use Rattle.context_runner.specs.Sharing.{beginning}
use Rattle.context_runner.proofs.SharedTurns.{turn_from}
use Rattle.context_runner.proofs.taking.turn_on.Goals as goal

pub returns-clause-told : goal.returns-clause-told
returns-clause-told g c =
    let take = c.take_on-held in
    turn_from (beginning c.args.baton.now.table.shared.key.value.value) c.turn_held.result c.args.pass.now.seat.me.0 take.new.pass.seat.me.0 c.turn_held.new.pass.seat.me.0 take.result.value.run.entries take.ensures.taken c.turn_held.ensures.told
