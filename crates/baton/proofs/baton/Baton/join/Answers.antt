use Rattle.std.proofs.Common.{◌∙◌, ◌<◌, arith, ap, subst}
use mathlib.Core.Option.{none}
use Rattle.atomic_table.specs.Table.{step}
use Rattle.baton.specs.Views.{Once}
use Rattle.baton.proofs.Own.{once_apart}
use Rattle.baton.proofs.Sharing.{joins}
use Rattle.baton.proofs.Steps.{recalls_allowed}
use Rattle.baton.proofs.baton.Baton.join.Goals as goal

pub join_seat-requires : goal.join_seat-requires
join_seat-requires g c =
    let n = c.args.pass.now.numbered in
    (c.requires.of.0.0, c.requires.of.1.0, c.requires.idle.0, rw c.args.self.now.shape.0 (omega arith), joins g.T.Storied.history g.T.Storied.origin _ _ _ _ _ _ (subst (λ k. 0 < k) n.0 n.1) c.requires.idle.1)

pub load-requires : goal.load-requires
load-requires g c =
    (c.join_seat.ensures.0 ∙ c.requires.of.0.0, rw c.args.self.now.shape.0 (omega arith), recalls_allowed g.T.Storied.history g.T.Storied.origin _ _ _ (step 0 0 0 0 none) _ _)

pub returns-clause-apart : goal.returns-clause-apart
returns-clause-apart g c =
    once_apart c.args.pass.now.seat.me.0.mine c.args.seat.me.0.mine (subst Once (ap (λ m. m.0.mine) c.join_seat.ensures.2) c.load.ensures.2.3)
