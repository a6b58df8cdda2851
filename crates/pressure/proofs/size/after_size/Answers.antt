use Rattle.std.proofs.Common.{arith}
use Rattle.liveness.proofs.Sizes.{sized, ones_few}
use Rattle.pressure.proofs.size.after_size.Goals as goal

pub returns-clause-exact : goal.returns-clause-exact
returns-clause-exact c = sized _ _ (omega arith) c.values_after.ensures

pub returns-clause-few : goal.returns-clause-few
returns-clause-few c = ones_few c.values_after.result (omega arith)
