use Rattle.std.proofs.Common.{◌+◌, take, drop}
use Rattle.run_journal.specs.Histories.{bound_of}
use Rattle.run_journal.proofs.Straying.{strays_here, stray_refused, parted_at}
use Rattle.run_journal.proofs.replaying.follow_all.Goals as goal

pub returns-in-Err-clause-strays : goal.returns-in-Err-clause-strays
returns-in-Err-clause-strays c =
    let i = c.loop-written.written-index in
    let es = c.args.entries.now in
    strays_here c.in-Err.why c.loop-written.run c.args.run.engine.image (bound_of c.args.run.engine) (take i es) (drop (i + 1) es) es _ c.in-Err.ensures.known c.loop-written.invariant (parted_at es i _ c.loop-written-test.true) c.in-Err.ensures.strays

pub returns-in-Err-clause-refused : goal.returns-in-Err-clause-refused
returns-in-Err-clause-refused c =
    stray_refused c.in-Err.why c.args.run.engine.image (bound_of c.args.run.engine) c.args.entries.now (returns-in-Err-clause-strays c)
