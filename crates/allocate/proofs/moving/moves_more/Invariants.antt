use Rattle.std.proofs.Common.{ℕ, ◌≤◌, Some}
use Rattle.plan.specs.declared.row.Plan.{Plan}
use Rattle.range_colour.specs.PlacedPlans.{IsRegionFit}
use Rattle.emit.specs.Addressed.{glue_before}
use Rattle.allocate.proofs.moving.moves_more.Given as goal

abbrev pub invariant-loop-i : goal.invariant-loop-i
invariant-loop-i l = record {
  few : l.moved ≤ l.i;
  moved : (p r : ℕ) (plan : Plan) → IsRegionFit l.code p r (Some plan) → l.moved ≤ glue_before l.code plan l.i;
}
