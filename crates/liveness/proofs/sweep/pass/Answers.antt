use Rattle.liveness.proofs.Visits.{step_grown}
use Rattle.liveness.proofs.sweep.pass.Goals as goal

pub places-preserved : goal.places-preserved
places-preserved c =
    let visit = c.visit_if_there-grew.ensures in record {
      sweep = visit.sweep;
      grown = step_grown _ _ _ _ _ visit.grown visit.still c.places.invariant.grown;
    }
