use Rattle.std.proofs.Common.{length}
use Rattle.run_journal.specs.Histories.{bound_of}
use Rattle.run_journal.proofs.TextFollowing.{FollowedTo}
use Rattle.run_journal.proofs.texts.follow_text.Given as goal

abbrev pub invariant-lines : goal.invariant-lines
invariant-lines l = FollowedTo l.run l.fn.run.engine.image (bound_of l.fn.run.engine) l.text l.rest

abbrev pub decreases-lines : goal.decreases-lines
decreases-lines l = length l.rest
