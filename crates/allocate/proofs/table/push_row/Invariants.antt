use Rattle.std.proofs.Common.{◌≡◌, ◌++◌, take}
use Rattle.allocate.proofs.table.push_row.Given as goal

abbrev pub invariant-loop-cost : goal.invariant-loop-cost
invariant-loop-cost l = l.cells ≡ l.initial.cells ++ take l.cost-index l.row
