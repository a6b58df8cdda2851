use Rattle.std.proofs.Common.{false}
use Rattle.commands.proofs.GivenBack.{reported, not_reported}
use Rattle.commands.proofs.image_runs.report_in_threads.Goals as goal

pub returns-in-Ok : goal.returns-in-Ok
returns-in-Ok g c =
    reported g.P.Port.tells false c.args.opening c.attached-run.result.0 c.in-Ok.closed.run c.attached-run.result.1 c.in-Ok.closed.slots c.report_of_closed.result.0 c.args.ports.items c.report_of_closed.result.1.items c.attached-run.ensures.told c.report_of_closed.ensures.ports c.attached-run.ensures.attached
    c.in-Ok.ensures.brought c.in-Ok.ensures.bench c.report_of_closed.ensures.status c.report_of_closed.ensures.text

pub returns-in-Err : goal.returns-in-Err
returns-in-Err g c =
    not_reported g.P.Port.tells false c.args.opening _ c.attached-run.result.1 c.in-Err.closed.slots c.args.ports.items c.ports_of.result.items c.attached-run.ensures.told c.ports_of.ensures c.in-Err.ensures.same_slots
