use Rattle.std.proofs.Common.{◌≡◌}
use Rattle.micro_isa.specs.Pieces.{total}
use Rattle.emitted.specs.Words.{address, block_size}
use Rattle.emitted.specs.Edges.{row_at}
use Rattle.emit.specs.Addressed.{firsts}
use Rattle.emit.specs.Tables.{HasPlaces}
use Rattle.emit.proofs.starts.addresses_of.Given as goal

abbrev pub invariant-loop-i : goal.invariant-loop-i
invariant-loop-i l = record {
  starts : l.starts ≡ firsts (address l.code l.plan) l.i;
  blocks : l.blocks ≡ firsts (total (block_size l.code l.plan)) l.i;
  start : l.start ≡ address l.code l.plan l.i;
  block : l.block ≡ total (block_size l.code l.plan) l.i;
  row : HasPlaces (row_at l.plan l.i).places l.table;
}
