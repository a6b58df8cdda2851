use Rattle.std.proofs.Common.{rules, ◌≡◌, []}
use Rattle.commands.proofs.Soaking.{summary_is}
use Rattle.commands.proofs.soaks.soak_run.Goals as goal

pub returns-in-Ok : goal.returns-in-Ok
returns-in-Ok c =
    let none : c.attached-run.result.1.told ≡ [] = search rules in
    summary_is c.args.number c.args.need c.args.run c.attached-run.result.0 c.in-Ok.closed.run c.attached-run.result.1 c.in-Ok.closed.slots c.summary_of_closed.result none c.attached-run.ensures.attached
    c.in-Ok.ensures.brought c.in-Ok.ensures.bench c.summary_of_closed.ensures.status c.summary_of_closed.ensures.text
