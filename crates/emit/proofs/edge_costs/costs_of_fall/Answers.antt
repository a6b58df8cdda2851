use Rattle.std.proofs.Common.{◌+◌, ◌≤◌, length, List, ◌∙◌, sym, subst}
use Rattle.std.specs.Prelude.{slice_index}
use Rattle.micro_isa.specs.declared.limits.TheConstants.{MOST_FILE}
use Rattle.std.proofs.lemmas.Result.{IfOk-weaker}
use Rattle.edge_moves.specs.ParallelMove.{AreDistinct}
use Rattle.plan.specs.declared.row.Place.{Place}
use Rattle.emitted.specs.Edges.{pairs_from}
use Rattle.emit.specs.Tables.{AreSmall}
use Rattle.emit.proofs.Edging.{fall_edge, table_distinct}
use Rattle.emit.proofs.Filling.{row_small}
use Rattle.emit.specs.Sized.{AreCostsOf, AreCostsTo}
use Rattle.emit.proofs.Pricing.{costs_edge, few_listed}
use Rattle.emit.proofs.edge_costs.costs_of_fall.Goals as goal

pub costs_of_move-requires-clause-distinct : goal.costs_of_move-requires-clause-distinct
costs_of_move-requires-clause-distinct c =
    let edge = fall_edge c.args.code.now c.args.i c.in-Some.j (sym c.requires.fall ∙ c.in-Some.is) in
    subst (λ qs. AreDistinct (pairs_from (λ k. slice_index c.args.table.now k) qs)) (sym c.places_at.ensures)
    (table_distinct c.args.code.now c.args.plan.now c.args.i c.in-Some.j c.args.table.now c.requires.valid c.requires.closed c.requires.after edge)

pub costs_of_move-requires-clause-few : goal.costs_of_move-requires-clause-few
costs_of_move-requires-clause-few c =
    let edge = fall_edge c.args.code.now c.args.i c.in-Some.j (sym c.requires.fall ∙ c.in-Some.is) in
    let there = c.requires.closed.closed c.args.i c.in-Some.j edge in
    subst (λ (qs : List Place). length qs ≤ MOST_FILE) (sym c.places_at.ensures) (few_listed c.args.code.now c.args.plan.now c.in-Some.j c.requires.valid there)

pub costs_of_move-requires-clause-small : goal.costs_of_move-requires-clause-small
costs_of_move-requires-clause-small c =
    subst AreSmall (sym c.places_at.ensures) (row_small c.args.code.now c.args.plan.now c.in-Some.j c.requires.closed c.requires.valid)

pub fill-requires : goal.fill-requires
fill-requires c =
    record { small = subst AreSmall (sym c.places_at-in-None.ensures) (row_small c.args.code.now c.args.plan.now (c.args.i + 1) c.requires.closed c.requires.valid) }

pub returns-in-Some-clause-costs : goal.returns-in-Some-clause-costs
returns-in-Some-clause-costs c =
    let code = c.args.code.now in
    let plan = c.args.plan.now in
    let table = c.args.table.now in
    let edge = fall_edge code c.args.i c.in-Some.j (sym c.requires.fall ∙ c.in-Some.is) in
    IfOk-weaker c.costs_of_move.result (AreCostsOf (pairs_from (λ k. slice_index table k) c.places_at.result.now)) (AreCostsTo code plan c.args.i c.args.fall)
    (λ costs are. subst (λ o. AreCostsTo code plan c.args.i o costs) (sym c.in-Some.is) (costs_edge code plan c.args.i c.in-Some.j table c.places_at.result.now costs c.requires.valid c.requires.closed c.requires.after edge c.places_at.ensures are)) c.costs_of_move.ensures.costs
