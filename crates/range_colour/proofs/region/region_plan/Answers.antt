use Rattle.std.proofs.Common.{refl, subst}
use Rattle.plan.specs.declared.row.Plan.{Plan}
use Rattle.range_colour.specs.PlacedPlans.{IsPlacedBy}
use Rattle.range_colour.specs.Regional.{DoFit}
use Rattle.range_colour.proofs.Grouping.{inside_places, region_none, region_places, region_small, region_some, region_still, region_valid}
use Rattle.range_colour.proofs.region.region_plan.Goals as goal

pub returns-then-not-all_fit-clause-fit : goal.returns-then-not-all_fit-clause-fit
returns-then-not-all_fit-clause-fit c =
    let test = subst (DoFit c.args.fits.now c.args.p c.args.r) c.if-not-all_fit.true c.all_fit.ensures in
    region_none c.args.code.now c.args.regions.now c.requires.regions c.args.fits.now c.requires.fits c.args.p c.args.r test

pub rows-requires-clause-inside : goal.rows-requires-clause-inside
rows-requires-clause-inside c = inside_places c.args.code.now c.args.regions.now c.requires.regions c.args.fits.now c.requires.fits

pub rows-requires-clause-small : goal.rows-requires-clause-small
rows-requires-clause-small c =
    let test = subst (DoFit c.args.fits.now c.args.p c.args.r) c.if-not-all_fit.false c.all_fit.ensures in
    region_small c.args.code.now c.args.regions.now c.requires.regions c.args.fits.now c.requires.fits c.args.p c.args.r c.requires.order c.requires.few test

pub returns-clause-fit : goal.returns-clause-fit
returns-clause-fit c =
    let test = subst (DoFit c.args.fits.now c.args.p c.args.r) c.if-not-all_fit.false c.all_fit.ensures in
    let placed = subst (λ (empty : Plan). IsPlacedBy c.args.code.now empty.p empty.r (region_places c.args.code.now c.args.regions.now c.requires.regions c.args.fits.now c.requires.fits) c.in_ok-plan.plan) c.emptied-empty.ensures c.in_ok-plan.ensures in
    region_some c.args.code.now c.args.regions.now c.requires.regions c.args.fits.now c.requires.fits c.args.p c.args.r c.requires.order c.requires.few test
    c.in_ok-plan.plan placed

pub returns-clause-valid : goal.returns-clause-valid
returns-clause-valid c =
    let test = subst (DoFit c.args.fits.now c.args.p c.args.r) c.if-not-all_fit.false c.all_fit.ensures in
    let placed = subst (λ (empty : Plan). IsPlacedBy c.args.code.now empty.p empty.r (region_places c.args.code.now c.args.regions.now c.requires.regions c.args.fits.now c.requires.fits) c.in_ok-plan.plan) c.emptied-empty.ensures c.in_ok-plan.ensures in
    region_valid c.args.code.now c.args.regions.now c.requires.regions c.args.fits.now c.requires.fits c.args.p c.args.r c.requires.order c.requires.few test
    c.in_ok-plan.plan placed

pub returns-clause-still : goal.returns-clause-still
returns-clause-still c =
    let test = subst (DoFit c.args.fits.now c.args.p c.args.r) c.if-not-all_fit.false c.all_fit.ensures in
    let placed = subst (λ (empty : Plan). IsPlacedBy c.args.code.now empty.p empty.r (region_places c.args.code.now c.args.regions.now c.requires.regions c.args.fits.now c.requires.fits) c.in_ok-plan.plan) c.emptied-empty.ensures c.in_ok-plan.ensures in
    region_still c.args.code.now c.args.regions.now c.requires.regions c.args.fits.now c.requires.fits c.args.p c.args.r c.requires.order c.requires.few test
    c.in_ok-plan.plan c.requires.closed.closed placed

pub returns-clause-serves : goal.returns-clause-serves
returns-clause-serves c m n order few test =
    region_some c.args.code.now c.args.regions.now c.requires.regions c.args.fits.now c.requires.fits m n order few test
    _ (record { private = refl; all = refl; rows = c.in_ok-plan.ensures.rows })
