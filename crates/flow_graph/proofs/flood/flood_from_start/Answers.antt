use Rattle.flow_graph.proofs.Flooding.{begins}
use Rattle.flow_graph.proofs.flood.flood_from_start.Goals as goal

pub flood-requires-clause-open : goal.flood-requires-clause-open
flood-requires-clause-open c =
    begins _ _ _ _ _ c.requires.some c.requires.one_each c.requires.dark c.new-stack.ensures.items c.in_ok-mark.ensures.marks c.in_ok-mark.ensures.stack
