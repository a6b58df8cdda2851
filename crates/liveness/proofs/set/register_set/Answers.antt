use Rattle.std.proofs.Common.{subst}
use Rattle.flow_graph.specs.Paths.{IsSmall}
use Rattle.liveness.proofs.Staying.{alone}
use Rattle.liveness.proofs.set.register_set.Goals as goal

pub returns-in-Some : goal.returns-in-Some
returns-in-Some c = rw c.in-Some.is (alone c.in-Some.field-0 (subst IsSmall c.in-Some.is c.requires))
