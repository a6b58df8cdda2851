use Rattle.liveness.proofs.Sizes.{union}
use Rattle.liveness.proofs.Staying.{out_set}
use Rattle.liveness.proofs.surviving.values_after.Goals as goal

pub returns : goal.returns
returns c = union _ _ c.live_out.result c.written.result (out_set _ _ _ _ c.requires.live c.requires.here c.live_out.ensures) c.written.ensures
