use Rattle.budget.specs.Choices.{IsBestBelow}
use Rattle.budget.proofs.sharing.best_mark.Given as goal

abbrev pub invariant-sizes : goal.invariant-sizes
invariant-sizes l = IsBestBelow l.tables l.file l.shared l.best
