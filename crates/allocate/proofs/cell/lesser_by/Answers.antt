use Rattle.std.proofs.Common.{List, Option, Some, None, sym, subst}
use Rattle.std.specs.Prelude.{IfSome}
use Rattle.micro_isa.specs.declared.program.Line.{Line}
use Rattle.plan.specs.declared.row.Plan.{Plan}
use Rattle.plan.specs.ValidPlans.{IsValidPlan}
use Rattle.range_colour.specs.PlacedPlans.{IsRegionFit}
use Rattle.range_colour.specs.Regional.{AreFits}
use Rattle.allocate.proofs.Costing.{dearer_none, walk_cell}
use Rattle.allocate.proofs.cell.lesser_by.Goals as goal

pub region_plan-requires-clause-fits : goal.region_plan-requires-clause-fits
region_plan-requires-clause-fits c =
    subst (λ (code : List Line). AreFits code c.args.division.now c.args.regions.now) (sym c.as_slice-code.ensures) c.requires.regions

pub lesser_of-requires-clause-fit : goal.lesser_of-requires-clause-fit
lesser_of-requires-clause-fit c =
    subst (λ (l : List Line). IsRegionFit l c.args.p c.args.r (Some c.in-Some.plan)) c.as_slice-code.ensures (subst (IsRegionFit c.as_slice-code.result.now c.args.p c.args.r) c.in-Some.is c.in_ok-plan.ensures.fit)

pub lesser_of-requires-clause-fitted : goal.lesser_of-requires-clause-fitted
lesser_of-requires-clause-fitted c =
    subst (λ (l : List Line). IsValidPlan l c.in-Some.plan) c.as_slice-code.ensures (subst (λ (o : Option Plan). IfSome o (IsValidPlan c.as_slice-code.result.now)) c.in-Some.is c.in_ok-plan.ensures.valid)

pub returns-in-None-clause-cell : goal.returns-in-None-clause-cell
returns-in-None-clause-cell c =
    let code = c.args.program.now.code in
    let walk = c.requires.walk in
    let none = subst (λ (l : List Line). IsRegionFit l c.args.p c.args.r None) c.as_slice-code.ensures (subst (IsRegionFit c.as_slice-code.result.now c.args.p c.args.r) c.in-None.is c.in_ok-plan.ensures.fit) in
    (c.args.walked.cost, walk_cell code c.args.p c.args.r c.args.walked.cost c.args.walked.plan c.requires.out walk.walk walk.cost (dearer_none code c.args.p c.args.r c.args.walked.cost none))
