use Rattle.std.proofs.Common.{sym, ◌∙◌}
use Rattle.micro_isa.proofs.Deciding.{Decides-bundle}
use Rattle.micro_isa.proofs.program.Bundle.is_formed.Goals as goal

pub returns : goal.returns
returns c = (λ h. (Decides-bundle c.args.self.now).0 (sym c.passes.ensures ∙ h), λ f. c.passes.ensures ∙ (Decides-bundle c.args.self.now).1 f)
