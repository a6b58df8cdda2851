use Rattle.std.proofs.Common.{rules, refl, true}
use Rattle.commands.specs.Openings.{TellsAtOnce, TellsInTheEnd}
use Rattle.micro_cli.specs.Calls.{IsAside}
use Rattle.micro_cli.specs.Preparing.{AsksBy}
use Rattle.micro_cli.proofs.Finishing.{at_once, in_the_end, finished_silent, finished_unasked, for_words}
use Rattle.micro_cli.proofs.call.plain_call.Goals as goal

pub returns-in-Ok-Reply : goal.returns-in-Ok-Reply
returns-in-Ok-Reply g c =
    let comes : TellsAtOnce (AsksBy c.in-Ok.wanted (g.I.Source.left c.args.input.now) (g.I.Source.left c.prepare_job.new.input)) c.in-Ok-Reply.reply = search rules in
    for_words c.tell.result c.in-Ok.wanted _ _ c.args.ports.items _ c.in-Ok.ensures.job
    (at_once c.in-Ok-Reply.reply c.tell.result c.in-Ok.wanted _ c.args.ports.items comes refl c.tell.ensures)

pub returns-in-Ok-Run : goal.returns-in-Ok-Run
returns-in-Ok-Run g c =
    let comes : TellsInTheEnd (AsksBy c.in-Ok.wanted (g.I.Source.left c.args.input.now) (g.I.Source.left c.prepare_job.new.input)) c.in-Ok-Run.opening = search rules in
    let runs : IsAside c.in-Ok.wanted → ⊥ = search rules in
    for_words c.tell_report-status.result c.in-Ok.wanted _ _ c.args.ports.items _ c.in-Ok.ensures.job
    (in_the_end true c.in-Ok-Run.opening c.report_in_rounds-report.result.0 c.tell_report-status.result c.in-Ok.wanted _ c.args.ports.items c.report_in_rounds-report.result.1.items c.report_in_rounds-report.ensures (c.in-Ok.ensures.rounds refl) runs comes c.prepare_job.ensures.taken c.tell_report-status.ensures)

pub returns-in-Err-prepare_job : goal.returns-in-Err-prepare_job
returns-in-Err-prepare_job g c =
    for_words c.status_of_silence.result c.in-Ok.wanted _ _ c.args.ports.items _ c.in-Ok.ensures.job
    (finished_silent c.in-Err-prepare_job.why c.status_of_silence.result c.in-Ok.wanted _ c.args.ports.items c.in-Err-prepare_job.ensures.silent c.prepare_job.ensures.taken refl refl c.status_of_silence.ensures)

pub returns-in-Err : goal.returns-in-Err
returns-in-Err g c = finished_unasked _ _ c.args.ports.items refl refl refl
