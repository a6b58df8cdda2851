use Rattle.std.proofs.Common.{◌≡◌, vec_len}
use Rattle.budget.specs.Choices.{IsRow}
use Rattle.budget.proofs.choice.next_row.Given as goal

abbrev pub invariant-spares : goal.invariant-spares
invariant-spares l = record {
  row : IsRow l.tables l.shared l.row.items;
  whole : vec_len l.row ≡ l.spare;
}
