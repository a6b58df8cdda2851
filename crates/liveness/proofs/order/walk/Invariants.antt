use Rattle.std.proofs.Common.{◌≡◌, length}
use Rattle.flow_graph.specs.Flows.{successors_in}
use Rattle.liveness.specs.Orders.{weight}
use Rattle.liveness.proofs.order.walk.Given as goal

abbrev pub invariant-turns : goal.invariant-turns
invariant-turns l = length l.marks ≡ length (successors_in l.flow)

abbrev pub decreases-turns : goal.decreases-turns
decreases-turns l = weight l.marks l.stack.items
