use Rattle.std.proofs.Common.{arith}
use Rattle.std.proofs.lemmas.Bool.Decides.{nat_tests}
use Rattle.std.proofs.lemmas.Nat.Bits.{bit_at_above}
use Rattle.plan.proofs.listing.is_in.Goals as goal

pub returns-else-register-lt128 : goal.returns-else-register-lt128
returns-else-register-lt128 c =
    let none = bit_at_above c.args.set 128 c.args.register.0 (omega arith) c.if-register-lt128.false in
    (λ yes. absurd (grind (arith, nat_tests)), λ one. absurd (omega arith))
