use Rattle.std.proofs.Common.{arith}
use Rattle.liveness.proofs.Visits.{step_grown, step_still}
use Rattle.liveness.proofs.sweep.sweep.Goals as goal

pub visits-preserved : goal.visits-preserved
visits-preserved c =
    let visit = c.visit-grew.ensures in record {
      within = omega arith;
      sweep = visit.sweep;
      grown = step_grown _ _ _ _ _ visit.grown visit.still c.visits.invariant.grown;
      still = step_still _ c.visits.sets _ _ c.visits.grew _ (λ e j low. c.visits.invariant.still e j (omega arith)) visit.still visit.closed;
    }
