use Rattle.std.proofs.Common.{arith}
use Rattle.liveness.proofs.Sizes.{sized}
use Rattle.pressure.proofs.size.stay_size.Goals as goal

pub returns : goal.returns
returns c = sized _ _ (omega arith) c.survivors.ensures
