use Rattle.std.proofs.Common.{rules, refl, true, false}
use Rattle.commands.specs.Openings.{TellsAtOnce, TellsInTheEnd}
use Rattle.micro_cli.specs.Calls.{IsAside}
use Rattle.micro_cli.specs.Preparing.{AsksBy}
use Rattle.micro_cli.proofs.Finishing.{at_once, in_the_end, finished_silent}
use Rattle.micro_cli.proofs.thread_call.call_by_order.Goals as goal

pub returns-in-Ok-Reply : goal.returns-in-Ok-Reply
returns-in-Ok-Reply g c =
    let comes : TellsAtOnce (AsksBy c.args.wanted (g.I.Source.left c.args.input.now) (g.I.Source.left c.prepare_job.new.input)) c.in-Ok-Reply.reply = search rules in
    at_once c.in-Ok-Reply.reply c.tell.result c.args.wanted _ c.args.ports.items comes refl c.tell.ensures

pub returns-in-Err : goal.returns-in-Err
returns-in-Err g c = finished_silent c.in-Err.why c.status_of_silence.result c.args.wanted _ c.args.ports.items c.in-Err.ensures.silent c.prepare_job.ensures.taken refl refl c.status_of_silence.ensures

pub returns-then-in_threads : goal.returns-then-in_threads
returns-then-in_threads g c =
    let comes : TellsInTheEnd (AsksBy c.args.wanted (g.I.Source.left c.args.input.now) (g.I.Source.left c.prepare_job.new.input)) c.in-Ok-Run.opening = search rules in
    let runs : IsAside c.args.wanted → ⊥ = search rules in
    in_the_end false c.in-Ok-Run.opening c.report_in_threads-report.result.0 c.tell_report.result c.args.wanted _ c.args.ports.items c.report_in_threads-report.result.1.items c.report_in_threads-report.ensures (c.in_threads.ensures.threads c.if-in_threads.true) runs comes c.prepare_job.ensures.taken c.tell_report.ensures

pub returns-else-in_threads : goal.returns-else-in_threads
returns-else-in_threads g c =
    let comes : TellsInTheEnd (AsksBy c.args.wanted (g.I.Source.left c.args.input.now) (g.I.Source.left c.prepare_job.new.input)) c.in-Ok-Run.opening = search rules in
    let runs : IsAside c.args.wanted → ⊥ = search rules in
    in_the_end true c.in-Ok-Run.opening c.report_in_rounds-report.result.0 c.tell_report-else-in_threads.result c.args.wanted _ c.args.ports.items c.report_in_rounds-report.result.1.items c.report_in_rounds-report.ensures (c.in_threads.ensures.rounds c.if-in_threads.false) runs comes c.prepare_job.ensures.taken c.tell_report-else-in_threads.ensures
