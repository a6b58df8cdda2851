use Rattle.std.proofs.Common.{subst}
use Rattle.flow_graph.specs.Floods.{IsReached}
use Rattle.flow_graph.specs.Paths.{AreSuccessors}
use Rattle.flow_graph.proofs.Edges.{within, flow_of}
use Rattle.flow_graph.proofs.flow.Flow.of.Goals as goal

pub reached-requires-clause-within : goal.reached-requires-clause-within
reached-requires-clause-within c =
    let are = subst (λ code. AreSuccessors code c.in_ok-successors.successors) c.as_slice.ensures c.in_ok-successors.ensures in
    rw c.as_slice-2.ensures (within _ _ are c.requires)

pub returns : goal.returns
returns c =
    let are = subst (λ code. AreSuccessors code c.in_ok-successors.successors) c.as_slice.ensures c.in_ok-successors.ensures in
    flow_of _ _ are _ (within _ _ are c.requires) (subst (λ list. IsReached list c.in_ok-marks.marks) c.as_slice-2.ensures c.in_ok-marks.ensures)
