use Rattle.journal_text.proofs.Spelling.{some_entry}
use Rattle.journal_text.proofs.words.read_entry.Goals as goal

pub returns-clause-some : goal.returns-clause-some
returns-clause-some c = some_entry c.args.line.now c.entry_of.result c.entry_of.ensures
