use Rattle.std.proofs.Common.{ap, subst, ◌-◌}
use Rattle.context_runner.specs.Sharing.{beginning, Turned}
use Rattle.context_runner.proofs.SharedTurns.{turn_told}
use Rattle.context_runner.proofs.taking.turn_held.Goals as goal

pub returns-clause-told : goal.returns-clause-told
returns-clause-told g c =
    let t = c.turn-answer in
    let context = c.number-context.result - 1 in
    let did = subst (λ b. Turned t.result b.run t.new.self.run context) c.value_mut.ensures.value t.ensures.turned in
    turn_told (beginning c.args.baton.now.table.shared.key.value.value) t.result c.args.pass.now.seat.me.0 c.put.new.pass.seat.me.0 c.args.held.value t.new.self context c.requires.origin (ap (λ n. n - 1) c.number-context.ensures.number) c.requires.seen did (ap (λ m. m.0) c.put.ensures.put)
