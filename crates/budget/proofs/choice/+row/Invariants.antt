use Rattle.std.proofs.Common.{length}
use Rattle.budget.proofs.choice.+row.Given as goal

abbrev pub decreases-row : goal.decreases-row
decreases-row l = length l.tables.now
