use Rattle.std.proofs.Common.{arith}
use Rattle.edge_moves.proofs.Sources.{marked}
use Rattle.edge_moves.proofs.register_set.add.Goals as goal

pub returns : goal.returns
returns c = λ q. marked c.args.set.now c.args.register.0 q (omega (arith, c.told-set))
