use Rattle.commands.proofs.Replaying.{told_run}
use Rattle.commands.proofs.journals.replay_image.Goals as goal

pub returns-in-Ok : goal.returns-in-Ok
returns-in-Ok c =
    told_run c.args.steps c.args.need c.args.image.now c.args.journal.now _ c.report_of_run.result c.in-Ok.ensures.replays c.in-Ok.ensures.legal
    c.report_of_run.ensures.status c.report_of_run.ensures.text
