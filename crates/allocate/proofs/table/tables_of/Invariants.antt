use Rattle.std.proofs.Common.{◌≡◌, length}
use Rattle.allocate.specs.Items.{Covers}
use Rattle.allocate.specs.Tables.{IsKept, IsTabled, IsWalkKept}
use Rattle.allocate.proofs.table.tables_of.Given as goal

abbrev pub invariant-loop-c : goal.invariant-loop-c
invariant-loop-c l = record {
  all_tables : length l.tables ≡ l.c;
  all_keeps : length l.keeps ≡ l.c;
  all_walks : length l.walks.items ≡ l.c;
  tables : Covers (IsTabled l.spare) l.programs l.tables;
  keeps : Covers IsKept l.programs l.keeps;
  walks : Covers IsWalkKept l.programs l.walks.items;
}
