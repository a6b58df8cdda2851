use Rattle.std.proofs.Common.{◌∷◌, Some, ap, arith, ◌∙◌}
use Rattle.atomic_table.specs.Table.{rest, step}
use mathlib.Core.Option.{none}
use Rattle.baton.specs.Law.{carried_history}
use Rattle.baton.proofs.Steps.{posts_at, frees_at}
use Rattle.baton.proofs.baton.Baton.put.Goals as goal

pub swap-requires : goal.swap-requires
swap-requires g c =
    let shape = c.args.self.now.shape in
    let x = c.exchange-was.ensures in
    let me_is = x.3 ∙ ap (λ l. (c.args.pass.now.seat.me.0, (0, Some c.args.held.value) ∷ rest l)) c.requires.taken.0 in (
      x.0 ∙ c.requires.of.0,
      rw shape.0 (omega arith),
      posts_at g.T.Storied.history g.T.Storied.origin _ _ _ (step 0 0 0 0 none) _ _ _ c.args.held.value shape.1 (ap (λ m. m.1) me_is) (ap (λ m. m.0.holding) me_is ∙ c.requires.taken.1) (ap (λ m. m.0.ended) me_is ∙ c.args.pass.now.going) c.length-length.ensures
          (rw me_is c.requires.story),
    )

pub swap-requires-2 : goal.swap-requires-2
swap-requires-2 g c =
    let shape = c.args.self.now.shape in
    let x = c.exchange-was.ensures in
    let p = c.swap.ensures in
    let me_is = x.3 ∙ ap (λ l. (c.args.pass.now.seat.me.0, (0, Some c.args.held.value) ∷ rest l)) c.requires.taken.0 in (
      p.0 ∙ x.0 ∙ c.requires.of.0,
      rw shape.0 (omega arith),
      frees_at g.T.Storied.history g.T.Storied.origin _ _ _ (step 0 0 0 0 none) _ _ c.args.held.value shape.1 (p.2.0 ∙ ap (λ m. m.1) me_is)
          (ap (λ v. v.holding) p.2.1 ∙ ap (λ m. m.0.holding) me_is ∙ c.requires.taken.1)
          (ap (λ v. v.seen) p.2.1 ∙ ap (λ m. carried_history g.T.Storied.history m.1 m.0.seen) me_is)
          c.requires.origin,
    )
