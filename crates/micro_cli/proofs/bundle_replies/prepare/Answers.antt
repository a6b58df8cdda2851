use Rattle.std.proofs.lemmas.Result.{IfOk-weaker}
use Rattle.commands.specs.declared.task.Task.TheVariants.{OfBundle}
use Rattle.commands.specs.Openings.{ComesTo, ToldOfBundle}
use Rattle.micro_cli.specs.Preparing.{SaysBy}
use Rattle.micro_cli.proofs.Preparing.{bundle_comes}
use Rattle.micro_cli.proofs.bundle_replies.prepare.Goals as goal

pub returns-in-Ok-clause-comes : goal.returns-in-Ok-clause-comes
returns-in-Ok-clause-comes c =
    let b = c.in-Ok.bundle in
    IfOk-weaker c.prepare_bundle.result (ComesTo (ToldOfBundle c.args.task b)) (ComesTo (SaysBy (OfBundle c.args.task) c.args.text.now))
    (λ p comes. bundle_comes c.args.task c.args.text.now b p c.in-Ok.ensures.tells.1 comes) c.prepare_bundle.ensures.comes
