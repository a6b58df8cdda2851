use Rattle.std.proofs.Common.{arith}
use Rattle.edge_moves.proofs.Tables.{left-taken, filled-taken}
use Rattle.edge_moves.proofs.source_table.take.Goals as goal

pub returns-clause-left : goal.returns-clause-left
returns-clause-left c = λ pairs. left-taken c.args.sources.now c.args.target.0 pairs (omega (arith, c.told-sources))

pub returns-clause-fewer : goal.returns-clause-fewer
returns-clause-fewer c = λ is. filled-taken c.args.sources.now c.args.target.0 is
