use Rattle.std.proofs.Common.{◌≡◌, ◌+◌, length, sym, ap, subst, arith}
use Rattle.std.proofs.lemmas.Grind.{common_steps}
use Rattle.run_journal.specs.Histories.{bound_of}
use Rattle.run_journal.specs.TextReplays.{IsUnreadAt}
use Rattle.run_journal.proofs.TextFollowing.{followed_all, unread_here, stray_told}
use Rattle.run_journal.proofs.texts.follow_text.Goals as goal

pub returns-in-Err-clause-strays : goal.returns-in-Err-clause-strays
returns-in-Err-clause-strays c =
    stray_told c.first_cause.result c.in-Err.why c.lines.run c.args.run.engine.image (bound_of c.args.run.engine) (length c.entries.result.now + 1) c.args.text.now c.lines.rest.now c.in-Some.behind.now c.in-Some.written c.in-Err.ensures.known c.lines.invariant c.in-Some.ensures.some c.in-Err.ensures.strays (ap (λ l. length l + 1) c.entries.ensures.entries) c.first_cause.ensures

pub returns-in-None-clause-strays : goal.returns-in-None-clause-strays
returns-in-None-clause-strays c =
    subst (λ l. IsUnreadAt c.args.text.now (length l + 1)) (sym c.entries.ensures.entries)
    (unread_here c.lines.run c.args.run.engine.image (bound_of c.args.run.engine) c.args.text.now c.lines.rest.now c.lines.invariant c.in-None.ensures.none)

pub returns-clause-replays : goal.returns-clause-replays
returns-clause-replays c =
    let none : length c.lines.rest.now ≡ 0 = grind (arith, common_steps) in
    followed_all c.lines.run c.args.run.engine.image (bound_of c.args.run.engine) c.args.text.now c.lines.rest.now c.lines.invariant none
