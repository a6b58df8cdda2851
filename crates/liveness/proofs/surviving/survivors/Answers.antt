use Rattle.std.proofs.Common.{arith}
use Rattle.liveness.proofs.Sizes.{difference}
use Rattle.liveness.proofs.Staying.{out_set}
use Rattle.liveness.proofs.surviving.survivors.Goals as goal

pub returns : goal.returns
returns c = difference _ _ c.live_out.result c.written.result (omega arith) (omega arith) (out_set _ _ _ _ c.requires.live c.requires.here c.live_out.ensures) c.written.ensures
