use Rattle.std.proofs.Common.{arith}
use Rattle.edge_moves.proofs.Sources.{marked}
use Rattle.emit.proofs.edges.mark.Goals as goal

pub returns : goal.returns
returns c = λ q. marked c.args.named.now c.args.place q (omega (arith, c.ranges.place.fits, c.told-named))
