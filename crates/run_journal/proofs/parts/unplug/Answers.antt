use Rattle.run_journal.proofs.Going.{went_lost}
use Rattle.run_journal.proofs.parts.unplug.Goals as goal

pub returns-clause-went : goal.returns-clause-went
returns-clause-went c =
    went_lost c.args.engine.now c.unplug.new.self c.args.entries.now.items c.note.new.entries.items c.args.channel c.requires.known c.requires.goes c.requires.plugged c.unplug.ensures.image c.unplug.ensures.step c.note.ensures.items
