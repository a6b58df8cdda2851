use Rattle.std.proofs.Common.{ℕ, Some, sym, subst}
use Rattle.std.specs.Prelude.{slice_index}
use Rattle.flow_graph.specs.Paths.{Edge}
use Rattle.plan.specs.declared.row.Plan.{Plan}
use Rattle.plan.specs.ValidPlans.{IsValidPlan}
use Rattle.range_colour.specs.PlacedPlans.{IsPlacedBy, IsWholeFit, MovesNothing}
use Rattle.range_colour.proofs.Planning.{ok_weaker, whole_some, whole_small, whole_still, whole_valid}
use Rattle.range_colour.proofs.whole.fit_plan.Goals as goal

pub rows-requires-clause-inside : goal.rows-requires-clause-inside
rows-requires-clause-inside c i k less used = rw c.places.ensures (c.requires.fit.inside k (i, less, tt, used))

pub rows-requires-clause-small : goal.rows-requires-clause-small
rows-requires-clause-small c i k less used =
    rw c.places.ensures (whole_small c.args.code.now c.args.fit.now c.args.p c.args.r c.requires.fit c.requires.order c.requires.few c.requires.fits i k less used)

pub returns-clause-fit : goal.returns-clause-fit
returns-clause-fit c =
    ok_weaker (IsPlacedBy c.args.code.now c.emptied.result.p c.emptied.result.r (λ i. slice_index c.places.result.now)) (λ plan. IsWholeFit c.args.code.now c.args.p c.args.r (Some plan))
    (λ plan placed. whole_some c.args.code.now c.args.fit.now c.args.p c.args.r c.requires.fit c.requires.order c.requires.few c.requires.fits plan
    (rw (sym c.places.ensures) (subst (λ (empty : Plan). IsPlacedBy c.args.code.now empty.p empty.r (λ i. slice_index c.places.result.now) plan) c.emptied.ensures placed)))
    _ c.rows.ensures

pub returns-clause-valid : goal.returns-clause-valid
returns-clause-valid c =
    ok_weaker (IsPlacedBy c.args.code.now c.emptied.result.p c.emptied.result.r (λ i. slice_index c.places.result.now)) (IsValidPlan c.args.code.now)
    (λ plan placed. whole_valid c.args.code.now c.args.fit.now c.args.p c.args.r c.requires.fit c.requires.order c.requires.few c.requires.fits plan
    (rw (sym c.places.ensures) (subst (λ (empty : Plan). IsPlacedBy c.args.code.now empty.p empty.r (λ i. slice_index c.places.result.now) plan) c.emptied.ensures placed)))
    _ c.rows.ensures

pub returns-clause-still : goal.returns-clause-still
returns-clause-still c =
    ok_weaker (IsPlacedBy c.args.code.now c.emptied.result.p c.emptied.result.r (λ i. slice_index c.places.result.now)) (λ plan. (i j : ℕ) → Edge c.args.code.now i j → MovesNothing c.args.code.now plan i j)
    (λ plan placed. whole_still c.args.code.now c.args.fit.now c.args.p c.args.r c.requires.fit c.requires.order c.requires.few c.requires.fits plan
    (rw (sym c.places.ensures) (subst (λ (empty : Plan). IsPlacedBy c.args.code.now empty.p empty.r (λ i. slice_index c.places.result.now) plan) c.emptied.ensures placed)))
    _ c.rows.ensures
