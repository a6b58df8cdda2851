use Rattle.edge_moves.proofs.Tables.{Filling}
use Rattle.std.proofs.Common.{drop}
use Rattle.edge_moves.proofs.source_table.sources_to.Given as goal

abbrev pub invariant-loop-source : goal.invariant-loop-source
invariant-loop-source l = Filling l.sources (drop l.source-index l.pairs) l.pairs
