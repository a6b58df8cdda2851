use Rattle.std.proofs.Common.{◌≡◌, ◌≤◌, max, map, drop}
use Rattle.micro_isa.specs.declared.limits.TheConstants.{MOST_FILE}
use Rattle.budget.specs.Costs.{demand_of}
use Rattle.budget.specs.Fitting.{greatest_gap}
use Rattle.budget.proofs.balancing.greatest_gap.Given as goal

abbrev pub invariant-tables : goal.invariant-tables
invariant-tables l = record {
  most : max l.greatest (greatest_gap (map demand_of (drop l.table-index l.tables))) ≡ greatest_gap (map demand_of l.tables);
  low : l.greatest ≤ MOST_FILE;
}
