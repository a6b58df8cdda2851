use Rattle.std.proofs.Common.{take}
use Rattle.run_journal.specs.Histories.{bound_of}
use Rattle.run_journal.specs.Replays.{Replays}
use Rattle.run_journal.proofs.replaying.follow_all.Given as goal

abbrev pub invariant-loop-written : goal.invariant-loop-written
invariant-loop-written l = Replays l.run l.fn.run.engine.image (bound_of l.fn.run.engine) (take l.written-index l.entries)
