use Rattle.std.proofs.Common.{◌≤◌, length, List, sym, subst}
use Rattle.std.specs.Prelude.{slice_index}
use Rattle.micro_isa.specs.declared.limits.TheConstants.{MOST_FILE}
use Rattle.std.proofs.lemmas.Result.{IfOk-weaker}
use Rattle.edge_moves.specs.ParallelMove.{AreDistinct}
use Rattle.plan.specs.declared.row.Place.{Place}
use Rattle.emitted.specs.Edges.{pairs_from}
use Rattle.emit.specs.Tables.{AreSmall}
use Rattle.emit.proofs.Filling.{row_small}
use Rattle.emit.proofs.Edging.{table_distinct}
use Rattle.emit.specs.Sized.{AreCostsOf, AreCostsTo}
use Rattle.emit.proofs.Pricing.{costs_edge, few_listed}
use Rattle.emit.proofs.edge_costs.costs_to.Goals as goal

pub costs_of_jump-requires-clause-distinct : goal.costs_of_jump-requires-clause-distinct
costs_of_jump-requires-clause-distinct c =
    subst (λ qs. AreDistinct (pairs_from (λ k. slice_index c.args.after.now k) qs)) (sym c.places_at.ensures)
    (table_distinct c.args.code.now c.args.plan.now c.args.i c.in-Some.j c.args.after.now c.requires.valid c.requires.closed c.requires.after (c.requires.edges c.in-Some.j c.in-Some.is))

pub costs_of_jump-requires-clause-few : goal.costs_of_jump-requires-clause-few
costs_of_jump-requires-clause-few c =
    let there = c.requires.closed.closed c.args.i c.in-Some.j (c.requires.edges c.in-Some.j c.in-Some.is) in
    subst (λ (qs : List Place). length qs ≤ MOST_FILE) (sym c.places_at.ensures) (few_listed c.args.code.now c.args.plan.now c.in-Some.j c.requires.valid there)

pub returns-in-Some : goal.returns-in-Some
returns-in-Some c =
    let code = c.args.code.now in
    let plan = c.args.plan.now in
    let table = c.args.after.now in
    IfOk-weaker c.costs_of_jump.result (AreCostsOf (pairs_from (λ k. slice_index table k) c.places_at.result.now)) (AreCostsTo code plan c.args.i c.args.next)
    (λ costs are. subst (λ o. AreCostsTo code plan c.args.i o costs) (sym c.in-Some.is) (costs_edge code plan c.args.i c.in-Some.j table c.places_at.result.now costs c.requires.valid c.requires.closed c.requires.after (c.requires.edges c.in-Some.j c.in-Some.is) c.places_at.ensures are)) c.costs_of_jump.ensures

pub costs_of_jump-requires-clause-small : goal.costs_of_jump-requires-clause-small
costs_of_jump-requires-clause-small c =
    subst AreSmall (sym c.places_at.ensures) (row_small c.args.code.now c.args.plan.now c.in-Some.j c.requires.closed c.requires.valid)
