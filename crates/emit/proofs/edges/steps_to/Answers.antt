use Rattle.std.proofs.Common.{◌≡◌, ℕ, List, ◌∙◌, sym, ap, subst}
use Rattle.std.specs.Prelude.{slice_index}
use Rattle.std.proofs.lemmas.Result.{IfOk-weaker}
use Rattle.edge_moves.specs.MoveSteps.{move_steps}
use Rattle.edge_moves.specs.ParallelMove.{AreDistinct}
use Rattle.plan.specs.declared.row.Place.{Place}
use Rattle.emitted.specs.Edges.{pairs_from, free_from, steps_to}
use Rattle.emit.proofs.Edging.{table_distinct, table_steps}
use Rattle.emit.proofs.edges.steps_to.Goals as goal

pub steps_of-requires : goal.steps_of-requires
steps_of-requires c =
    subst (λ qs. AreDistinct (pairs_from (λ k. slice_index c.args.after.now k) qs)) (sym c.places_at.ensures)
    (table_distinct c.args.code.now c.args.plan.now c.args.i c.in-Some.j c.args.after.now c.requires.valid c.requires.closed c.requires.after (c.requires.edges c.in-Some.j c.in-Some.is))

pub returns-in-Some : goal.returns-in-Some
returns-in-Some c =
    let code = c.args.code.now in
    let plan = c.args.plan.now in
    let table = c.args.after.now in
    let steps = λ (r : ℕ) (qs : List Place). move_steps (pairs_from (λ k. slice_index table k) qs) (free_from (pairs_from (λ k. slice_index table k) qs) r 0) in
    let is = table_steps code plan c.args.i c.in-Some.j table c.requires.valid c.requires.closed c.requires.after (c.requires.edges c.in-Some.j c.in-Some.is) in
    IfOk-weaker c.steps_of.result (λ done. done.items ≡ steps c.r.result c.places_at.result.now) (λ done. done.items ≡ steps_to code plan c.args.i c.args.next)
    (λ done e. e ∙ ap (λ r. steps r c.places_at.result.now) c.r.ensures ∙ ap (steps plan.r) c.places_at.ensures ∙ is ∙ ap (steps_to code plan c.args.i) (sym c.in-Some.is)) c.steps_of.ensures
