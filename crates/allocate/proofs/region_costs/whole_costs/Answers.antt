use Rattle.std.proofs.Common.{ℕ, ◌+◌, ◌≤◌, List, Option, Some, None, true, sym, subst, arith}
use Rattle.std.specs.Prelude.{IfSome}
use Rattle.micro_isa.specs.declared.limits.TheConstants.{MOST_FILE}
use Rattle.micro_isa.specs.declared.program.Line.{Line}
use Rattle.plan.specs.declared.row.Plan.{Plan}
use Rattle.range_colour.specs.declared.fit.Fit.{Fit}
use Rattle.range_colour.specs.PlacedPlans.{IsRegionFit}
use Rattle.range_colour.specs.Regional.{AreFits, DoFit}
use Rattle.allocate.proofs.Costing.{all_fits, region_costs_are, region_out}
use Rattle.allocate.proofs.region_costs.whole_costs.Goals as goal

pub region_plan-requires-clause-fits : goal.region_plan-requires-clause-fits
region_plan-requires-clause-fits c =
    subst (λ (fs : List Fit). AreFits c.as_slice-code.result.now c.args.fits.now.division fs) (sym c.as_slice-regions.ensures)
    (subst (λ (code : List Line). AreFits code c.args.fits.now.division c.args.fits.now.regions) (sym c.as_slice-code.ensures) (all_fits c.args.program.now.code c.args.fits.now c.requires.fits c.requires.whole))

pub returns-in_ok-costs-in-Some-clause-costs : goal.returns-in_ok-costs-in-Some-clause-costs
returns-in_ok-costs-in-Some-clause-costs c =
    let fits = c.args.fits.now.regions in
    let plan = c.in-Some.plan in
    let some = subst (λ (o : Option Plan). IfSome o (λ (x : Plan). (m n : ℕ) → m ≤ n → n ≤ MOST_FILE → DoFit c.as_slice-regions.result.now m n true → IsRegionFit c.as_slice-code.result.now m n (Some (record { p = m; r = n; rows = x.rows })))) c.in-Some.is c.in_ok-plan.ensures.serves in
    let same = subst (λ (fs : List Fit). (m n : ℕ) → m ≤ n → n ≤ MOST_FILE → DoFit fs m n true → IsRegionFit c.as_slice-code.result.now m n (Some (record { p = m; r = n; rows = plan.rows }))) c.as_slice-regions.ensures some in
    let serves = subst (λ (code : List Line). (m n : ℕ) → m ≤ n → n ≤ MOST_FILE → DoFit fits m n true → IsRegionFit code m n (Some (record { p = m; r = n; rows = plan.rows }))) c.as_slice-code.ensures same in
    region_costs_are c.args.program.now.code c.args.fits.now.division c.requires.fits.division fits (all_fits c.args.program.now.code c.args.fits.now c.requires.fits c.requires.whole) c.args.from plan c.in_ok-costs-in-Some.costs serves c.in_ok-costs-in-Some.ensures.numbers

pub returns-in-None-clause-costs : goal.returns-in-None-clause-costs
returns-in-None-clause-costs c j p less order few =
    let none = subst (λ (o : Option Plan). IsRegionFit c.as_slice-code.result.now MOST_FILE MOST_FILE o) c.in-None.is c.in_ok-plan.ensures.fit in
    let out = subst (λ (code : List Line). IsRegionFit code MOST_FILE MOST_FILE None) c.as_slice-code.ensures none in
    region_out c.args.program.now.code p (c.args.from + j) MOST_FILE MOST_FILE (omega arith) (omega arith) out
