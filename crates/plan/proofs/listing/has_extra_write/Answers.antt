use Rattle.std.proofs.Common.{◌≡◌, true, false, ap, ◌∙◌, sym}
use Rattle.std.specs.Prelude.{is_some}
use Rattle.plan.proofs.listing.has_extra_write.Goals as goal

pub returns-then-is_some : goal.returns-then-is_some
returns-then-is_some c =
    let tells = c.writes_nothing.ensures in
    let some : is_some c.args.write ≡ true = sym c.is_some.ensures ∙ c.if-is_some.true in (
      (λ yes. ((λ none. absurd (let off : is_some c.args.write ≡ false = ap is_some none in cc)), tells.0 yes)),
      (λ extra. tells.1 extra.1),
    )
