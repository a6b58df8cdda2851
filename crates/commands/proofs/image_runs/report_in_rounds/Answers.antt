use Rattle.std.proofs.Common.{true}
use Rattle.commands.proofs.GivenBack.{reported}
use Rattle.commands.proofs.image_runs.report_in_rounds.Goals as goal

pub returns-in-Ok : goal.returns-in-Ok
returns-in-Ok g c =
    reported g.P.Port.tells true c.args.opening c.attached-run.result.0 c.in-Ok.closed.run c.attached-run.result.1 c.in-Ok.closed.slots c.report_of_closed.result.0 c.args.ports.items c.report_of_closed.result.1.items c.attached-run.ensures.told c.report_of_closed.ensures.ports c.attached-run.ensures.attached
    c.in-Ok.ensures.brought c.in-Ok.ensures.bench c.report_of_closed.ensures.status c.report_of_closed.ensures.text
