use Rattle.std.proofs.Common.{sym, ◌∙◌}
use Rattle.micro_isa.proofs.Deciding.{Decides-image}
use Rattle.micro_isa.proofs.image.Image.is_formed.Goals as goal

pub returns : goal.returns
returns c = (λ h. (Decides-image c.args.self.now).0 (sym c.passes.ensures ∙ h), λ f. c.passes.ensures ∙ (Decides-image c.args.self.now).1 f)
