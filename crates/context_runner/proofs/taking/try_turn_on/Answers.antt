use Rattle.std.proofs.Common.{refl}
use Rattle.context_runner.specs.Sharing.{beginning}
use Rattle.context_runner.proofs.SharedTurns.{took_is, turn_from}
use Rattle.context_runner.proofs.taking.try_turn_on.Goals as goal

pub returns-in-Ok-clause-told : goal.returns-in-Ok-clause-told
returns-in-Ok-clause-told g c =
    let before = c.args.pass.now.seat.me.0 in
    let mid = c.try_take.new.pass.seat.me.0 in
    let t = c.turn_held-answer in
    let h = c.in-Ok.held.value.run.entries in
    turn_from (beginning c.args.baton.now.table.shared.key.value.value) t.result before mid t.new.pass.seat.me.0 h (took_is before before mid h refl refl refl refl c.in-Ok.ensures.ok.0 c.in-Ok.ensures.ok.1) t.ensures.told
