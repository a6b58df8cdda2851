use Rattle.std.proofs.Common.{◌≡◌}
use Rattle.budget.specs.Choices.{pick}
use Rattle.budget.proofs.Rows.{choices_at}
use Rattle.budget.proofs.choice.best.Given as goal

abbrev pub invariant-steps : goal.invariant-steps
invariant-steps l = l.best ≡ pick (choices_at l.tables l.shared l.spare) l.d
