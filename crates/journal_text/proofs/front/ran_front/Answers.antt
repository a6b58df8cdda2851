use Rattle.std.proofs.Common.{sym}
use Rattle.journal_text.proofs.Fronts.{ran_front}
use Rattle.journal_text.proofs.front.ran_front.Goals as goal

pub returns : goal.returns
returns c =
    ran_front c.args.text.now c.in_ok-rest.rest.now c.in_ok-context.rest.now c.in_ok-steps.rest.now c.in_ok-end.behind.now _ _ _ (sym c.in_ok-rest.ensures) c.in_ok-context.ensures c.in_ok-steps.ensures c.in_ok-end.ensures
