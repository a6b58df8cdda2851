use Rattle.std.proofs.Common.{refl}
use Rattle.plan.proofs.listing.check_listing.Goals as goal

pub returns-then-has_extra_write : goal.returns-then-has_extra_write
returns-then-has_extra_write c = λ p r. (refl, c.in_default.ensures, c.in_default-first_unlive.ensures, c.has_extra_write.ensures.0 c.if-has_extra_write.true)
