use Rattle.std.proofs.Common.{ℕ, ◌+◌, ◌*◌, ◌<◌, ◌≤◌, slice_index}
use Rattle.budget.specs.declared.TheConstants.{SIZES, MOST_COST}
use Rattle.plan_cases.proofs.budgets.is_small_row.Given as goal

abbrev pub invariant-loop-j : goal.invariant-loop-j
invariant-loop-j l =
    (k : ℕ) → k < l.j → l.table.private + l.i ≤ l.table.all + k → slice_index l.table.cells (l.i * SIZES + k) ≤ MOST_COST
