use Rattle.journal_text.proofs.Reading.{passed_more}
use Rattle.journal_text.proofs.journal.first_stray.Goals as goal

pub lines-preserved : goal.lines-preserved
lines-preserved c = passed_more c.args.text.now c.lines.rest.now c.in-Some.behind.now c.lines.count _ c.lines.invariant c.in-Some.ensures.some
