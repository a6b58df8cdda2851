use Rattle.std.proofs.Common.{ℕ, ◌+◌, ◌*◌, ◌<◌, ◌≤◌, slice_index}
use Rattle.budget.specs.declared.TheConstants.{SIZES, MOST_COST}
use Rattle.plan_cases.proofs.budgets.are_small.Given as goal

abbrev pub invariant-loop-i : goal.invariant-loop-i
invariant-loop-i l =
    (h j : ℕ) → h < l.i → j < SIZES → l.table.private + h ≤ l.table.all + j → slice_index l.table.cells (h * SIZES + j) ≤ MOST_COST
