use Rattle.soak_gen.proofs.Bundling.{made_formed}
use Rattle.soak_gen.proofs.generated.Goals as goal

pub returns-clause-formed : goal.returns-clause-formed
returns-clause-formed c = made_formed c.bundle.result c.args.number c.bundle.ensures
