use Rattle.std.proofs.Common.{ℕ, sym}
use Rattle.std.specs.Prelude.{IfSome}
use Rattle.plan.specs.ValidPlans.{IsValidPlan}
use Rattle.pressure.specs.Regions.{Joined}
use Rattle.range_colour.specs.PlacedPlans.{IsRegionFit, MovesNothing}
use Rattle.range_colour.proofs.Planning.{ok_same}
use Rattle.range_colour.proofs.Unique.{region_once}
use Rattle.range_colour.proofs.region.by_region.Goals as goal

pub returns-clause-fit : goal.returns-clause-fit
returns-clause-fit c = ok_same (IsRegionFit c.args.program.now.code c.args.p c.args.r) c.in_ok-found.found (rw (sym c.as_slice-code.ensures) c.in_ok-found.ensures.fit) _ c.listed.ensures

pub returns-clause-valid : goal.returns-clause-valid
returns-clause-valid c =
    ok_same (λ found. IfSome found (IsValidPlan c.args.program.now.code)) c.in_ok-found.found (rw (sym c.as_slice-code.ensures) c.in_ok-found.ensures.valid) _ c.listed.ensures

pub returns-clause-still : goal.returns-clause-still
returns-clause-still c =
    ok_same (λ found. IfSome found (λ plan. (i j : ℕ) → Joined c.args.program.now.code i j → MovesNothing c.args.program.now.code plan i j)) c.in_ok-found.found
    (rw (sym c.as_slice-code.ensures) c.in_ok-found.ensures.still) _ c.listed.ensures

pub returns-clause-once : goal.returns-clause-once
returns-clause-once c = region_once c.args.program.now.code c.args.p c.args.r

pub returns-in_err-fits-clause-once : goal.returns-in_err-fits-clause-once
returns-in_err-fits-clause-once c = region_once c.args.program.now.code c.args.p c.args.r

pub returns-in_err-found-clause-once : goal.returns-in_err-found-clause-once
returns-in_err-found-clause-once c = region_once c.args.program.now.code c.args.p c.args.r
