use Rattle.std.proofs.Common.{ap, subst}
use Rattle.context_runner.specs.Sharing.{beginning, PumpedOn}
use Rattle.context_runner.proofs.SharedTurns.{pump_told}
use Rattle.context_runner.proofs.taking.pump_held.Goals as goal

pub returns-clause-told : goal.returns-clause-told
returns-clause-told g c =
    let t = c.pump-pumped in
    let did = subst (λ b. PumpedOn t.result b.run t.new.self.run) c.value_mut.ensures.value t.ensures.pumped in
    pump_told (beginning c.args.baton.now.table.shared.key.value.value) t.result c.args.pass.now.seat.me.0 c.put.new.pass.seat.me.0 c.args.held.value t.new.self c.requires.origin c.requires.seen did (ap (λ m. m.0) c.put.ensures.put)
