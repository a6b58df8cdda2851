use Rattle.std.proofs.Common.{◌∷◌, Some, sym, ap, arith, ◌∙◌}
use Rattle.atomic_table.specs.Table.{rest, step}
use mathlib.Core.Option.{none}
use Rattle.baton.proofs.Steps.{takes_at, taken}
use Rattle.baton.proofs.baton.Baton.try_take.Goals as goal

pub compare_exchange-found-requires : goal.compare_exchange-found-requires
compare_exchange-found-requires g c =
    let shape = c.args.self.now.shape in
    let pass = c.args.pass.now in
    let n = pass.numbered in (
      c.requires.of.0,
      rw shape.0 (omega arith),
      takes_at g.T.Storied.history g.T.Storied.origin _ _ _ (step 0 0 0 0 none) _ _ pass.seat.me shape.1 c.requires.idle.0 (c.from-number.ensures ∙ n.0) (rw c.from-number.ensures n.1) c.requires.idle.1 pass.going c.requires.of.1 c.requires.of.2,
    )

pub exchange-requires : goal.exchange-requires
exchange-requires g c =
    let e = c.compare_exchange-found.ensures in
    let t = taken g.T.Storied.history g.T.Storied.origin (step 0 0 0 0 none) _ _ _ e.2 c.if-found-ne0.false in
    (e.0 ∙ c.requires.of.0, (Some t.0, t.1 ∙ ap (λ l. (0, Some t.0) ∷ rest l) (sym t.1)))
