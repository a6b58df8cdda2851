use Rattle.liveness.proofs.Staying.{written_small, written_set}
use Rattle.liveness.proofs.surviving.written.Goals as goal

pub register_set-requires : goal.register_set-requires
register_set-requires c = written_small _ _ _ _ c.writes.ensures c.requires.here c.requires.closed

pub returns : goal.returns
returns c = written_set _ _ _ _ c.writes.ensures c.requires.here _ c.register_set.ensures
