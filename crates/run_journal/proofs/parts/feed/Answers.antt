use Rattle.run_journal.proofs.Going.{went_fed}
use Rattle.run_journal.proofs.parts.feed.Goals as goal

pub returns-clause-went : goal.returns-clause-went
returns-clause-went c =
    went_fed c.args.engine.now c.feed.new.self c.args.entries.now.items c.note.new.entries.items c.args.channel c.args.word c.requires.known c.requires.goes c.requires.can c.feed.ensures.image c.feed.ensures.step c.note.ensures.items
