use Rattle.std.proofs.Common.{rules, ◌≡◌, Some}
use Rattle.std.proofs.lemmas.Result.{IfOk-weaker, IfErr-weaker}
use Rattle.commands.specs.declared.task.Job.TheVariants.{OfInput}
use Rattle.commands.specs.Openings.{ComesTo}
use Rattle.micro_cli.specs.Preparing.{AsksOfInputBy, AsksBy}
use Rattle.micro_cli.specs.Silences.{FailsToRead, IsSilent}
use Rattle.micro_cli.proofs.Preparing.{task_comes, took_of_task}
use Rattle.micro_cli.proofs.Replies.{silent_of_words}
use Rattle.micro_cli.proofs.command.prepare_job.Goals as goal

pub returns-in-Some-OfInput-clause-comes : goal.returns-in-Some-OfInput-clause-comes
returns-in-Some-OfInput-clause-comes g c =
    let asked : c.args.wanted ≡ Some (OfInput c.in-Some-OfInput.task) = search rules in
    let left = g.I.Source.left c.args.input.now in
    let left' = g.I.Source.left c.prepare_input.new.input in
    IfOk-weaker c.prepare_input.result (ComesTo (AsksOfInputBy c.in-Some-OfInput.task left left')) (ComesTo (AsksBy c.args.wanted left left'))
    (λ p comes. task_comes c.args.wanted left left' c.in-Some-OfInput.task p asked comes) c.prepare_input.ensures.comes

pub returns-in-Some-OfInput-clause-silent : goal.returns-in-Some-OfInput-clause-silent
returns-in-Some-OfInput-clause-silent g c =
    let asked : c.args.wanted ≡ Some (OfInput c.in-Some-OfInput.task) = search rules in
    let left = g.I.Source.left c.args.input.now in
    let left' = g.I.Source.left c.prepare_input.new.input in
    let faults = g.I.Source.faults c.args.input.now in
    let faults' = g.I.Source.faults c.prepare_input.new.input in
    IfErr-weaker c.prepare_input.result (λ why. FailsToRead c.in-Some-OfInput.task why left left' faults faults') (λ why. IsSilent why c.args.wanted left left' faults faults')
    (λ why fails. silent_of_words why c.args.wanted left left' faults faults' c.in-Some-OfInput.task asked fails) c.prepare_input.ensures.silent

pub returns-in-Some-OfInput-clause-taken : goal.returns-in-Some-OfInput-clause-taken
returns-in-Some-OfInput-clause-taken g c =
    let asked : c.args.wanted ≡ Some (OfInput c.in-Some-OfInput.task) = search rules in
    took_of_task c.args.wanted c.in-Some-OfInput.task (g.I.Source.left c.args.input.now) (g.I.Source.left c.prepare_input.new.input) asked c.prepare_input.ensures.taken
