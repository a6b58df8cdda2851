use Rattle.std.proofs.Common.{length, ◌-◌}
use Rattle.journal_text.proofs.Progress.{SearchedTo}
use Rattle.journal_text.proofs.journal.split_journal.Given as goal

abbrev pub invariant-lines : goal.invariant-lines
invariant-lines l = SearchedTo l.text l.start

abbrev pub decreases-lines : goal.decreases-lines
decreases-lines l = length l.text - l.start
