use Rattle.run_journal.proofs.Going.{went_ran}
use Rattle.run_journal.proofs.parts.run_on.Goals as goal

pub returns-clause-went : goal.returns-clause-went
returns-clause-went c =
    let s = c.segment-segment in
    went_ran c.args.engine.now s.new.self c.args.entries.now.items c.note.new.entries.items c.args.context s.result c.requires.known c.requires.legal s.ensures.image s.ensures.fire s.ensures.goes_on c.note.ensures.items
