use Rattle.std.proofs.Common.{◌+◌, length}
use Rattle.journal_text.proofs.Reading.{strays_at, stray_unread}
use Rattle.journal_text.proofs.journal.read_journal.Goals as goal

pub returns-in-None-clause-unread : goal.returns-in-None-clause-unread
returns-in-None-clause-unread c =
    stray_unread c.args.text.now (length c.lines.entries + 1)
    (strays_at c.args.text.now c.lines.rest.now c.lines.entries c.lines.invariant c.in-None.ensures.none)
