use Rattle.std.proofs.lemmas.Result.{IfOk-weaker}
use Rattle.commands.specs.Openings.{ComesTo, ToldOfRun, ToldOfBundle}
use Rattle.commands.proofs.Preparing.{run_is_asked}
use Rattle.commands.proofs.bundles.prepare_bundle.Goals as goal

pub returns-in-Run-clause-comes : goal.returns-in-Run-clause-comes
returns-in-Run-clause-comes c =
    let b = c.args.bundle.now in
    let steps = c.in-Run.steps in
    IfOk-weaker c.run_bundle.result (ComesTo (ToldOfRun steps b)) (ComesTo (ToldOfBundle c.args.task b))
    (λ p comes. run_is_asked c.args.task steps c.in-Run.order b p c.in-Run.is comes) c.run_bundle.ensures
