use Rattle.std.proofs.Common.{◌≡◌, ◌+◌, ◌*◌, ◌≤◌, drop}
use Rattle.micro_isa.specs.declared.limits.TheConstants.{MOST_FILE}
use Rattle.budget.specs.Choices.{least_sum}
use Rattle.budget.proofs.sizes.least_sum.Given as goal

abbrev pub invariant-tables : goal.invariant-tables
invariant-tables l = record {
  summed : l.sum + least_sum (drop l.table-index l.tables) l.shared ≡ least_sum l.tables l.shared;
  small : l.sum ≤ l.table-index * MOST_FILE;
}
