use Rattle.std.proofs.Common.{sym, ◌∙◌}
use Rattle.journal_text.proofs.Reading.{found_journal, searched_more}
use Rattle.journal_text.proofs.journal.split_journal.Goals as goal

pub returns-then-is_mark-clause-journal : goal.returns-then-is_mark-clause-journal
returns-then-is_mark-clause-journal c =
    found_journal c.args.text.now c.line_at.result.0.now c.line_at.result.1.now c.lines.start c.lines.invariant c.line_at.ensures (sym c.is_mark.ensures ∙ c.if-is_mark.true)

pub lines-preserved : goal.lines-preserved
lines-preserved c =
    searched_more c.args.text.now c.line_at.result.0.now c.line_at.result.1.now c.lines.start c.lines.invariant c.line_at.ensures (sym c.is_mark.ensures ∙ c.if-is_mark.false)
