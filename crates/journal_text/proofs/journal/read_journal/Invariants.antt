use Rattle.std.proofs.Common.{length}
use Rattle.journal_text.proofs.Progress.{ReadSoFar}
use Rattle.journal_text.proofs.journal.read_journal.Given as goal

abbrev pub invariant-lines : goal.invariant-lines
invariant-lines l = ReadSoFar l.text l.entries l.rest

abbrev pub decreases-lines : goal.decreases-lines
decreases-lines l = length l.rest
