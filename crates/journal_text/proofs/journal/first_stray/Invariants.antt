use Rattle.std.proofs.Common.{length}
use Rattle.journal_text.proofs.Progress.{Passed}
use Rattle.journal_text.proofs.journal.first_stray.Given as goal

abbrev pub invariant-lines : goal.invariant-lines
invariant-lines l = Passed l.text l.count l.rest

abbrev pub decreases-lines : goal.decreases-lines
decreases-lines l = length l.rest
