use Rattle.plan.proofs.Lists.{alone_set}
use Rattle.plan.proofs.listing.alone.Goals as goal

pub returns-then-register-lt128 : goal.returns-then-register-lt128
returns-then-register-lt128 c = alone_set c.args.register.0 c.if-register-lt128.true
