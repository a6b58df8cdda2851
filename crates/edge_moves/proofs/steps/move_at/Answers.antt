use Rattle.edge_moves.proofs.Marks.{moved_at, moved_sources}
use Rattle.edge_moves.proofs.steps.move_at.Goals as goal

pub returns-clause-moved : goal.returns-clause-moved
returns-clause-moved c = moved_at _ _ _ _ _ _ c.requires.distinct c.remove.ensures.value c.remove.ensures.by_index.2 c.in_ok-push.ensures

pub returns-clause-sources : goal.returns-clause-sources
returns-clause-sources c =
    moved_sources _ _ _ _ _ _ c.requires.distinct c.requires.here c.remove.ensures.value c.remove.ensures.by_index.2 c.take_out.ensures c.requires.sources
