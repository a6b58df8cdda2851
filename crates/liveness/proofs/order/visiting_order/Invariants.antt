use Rattle.std.proofs.Common.{◌≡◌, length}
use Rattle.flow_graph.specs.Flows.{successors_in}
use Rattle.liveness.proofs.order.visiting_order.Given as goal

abbrev pub invariant-roots : goal.invariant-roots
invariant-roots l = length l.marks.items ≡ length (successors_in l.flow)
