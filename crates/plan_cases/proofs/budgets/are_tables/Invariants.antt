use Rattle.std.proofs.Common.{ℕ, ◌<◌}
use Rattle.std.specs.Prelude.{slice_index_or}
use Rattle.budget.specs.declared.CostTable.{CostTable}
use Rattle.budget.specs.Costs.{IsCostTable}
use Rattle.plan_cases.proofs.budgets.are_tables.Given as goal

abbrev pub invariant-loop-table : goal.invariant-loop-table
invariant-loop-table l = (k : ℕ) → k < l.table-index → (d : CostTable) → IsCostTable (slice_index_or l.tables k d)
