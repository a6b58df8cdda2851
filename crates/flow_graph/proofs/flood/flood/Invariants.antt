use Rattle.std.proofs.Common.{◌≡◌, length, slice_index_or, true, false}
use Rattle.flow_graph.specs.Floods.{IsOpen, weight}
use Rattle.flow_graph.proofs.flood.flood.Given as goal

abbrev pub invariant-pops : goal.invariant-pops
invariant-pops l = record {
  open_at : IsOpen l.successors l.marks l.stack.items (length l.successors);
  start : slice_index_or l.marks 0 false ≡ true;
}

abbrev pub decreases-pops : goal.decreases-pops
decreases-pops l = weight l.marks l.stack.items
