use Rattle.std.proofs.Common.{arith, subst, sym, bit_xor, ◌≡◌, ◌<◌, ◌%◌, ◌^◌, [], ◌∷◌}
use Rattle.std.proofs.lemmas.Nat.Bits.{bit_at-trailing_zeros}
use Rattle.std.specs.Int.{w64, w128, trailing_zeros}
use Rattle.liveness.specs.Sets.{members}
use Rattle.liveness.proofs.Members.{takes_least, takes_low, takes_none}
use Rattle.liveness.proofs.set.take_least.Goals as goal

pub overflow_shl-k : goal.overflow_shl-k
overflow_shl-k c = (takes_low c.args.set.now (omega (arith, c.if-low-ne0.true))).0

pub returns-then-low-ne0 : goal.returns-then-low-ne0
returns-then-low-ne0 c =
    let n = c.args.set.now in
    let taken = takes_low n (omega (arith, c.if-low-ne0.true)) in
    (omega (arith, taken.0), subst (λ m. members 128 n ≡ trailing_zeros w64 (n % 2 ^ 64) ∷ members 128 (bit_xor n m)) (sym c.from.ensures) taken.1)

pub returns-then-set-eq0 : goal.returns-then-set-eq0
returns-then-set-eq0 c = subst (λ n. members 128 n ≡ []) (sym c.if-set-eq0.true) takes_none

pub returns : goal.returns
returns c =
    let some : 0 < c.args.set.now = omega (arith, c.if-set-eq0.false) in
    ((bit_at-trailing_zeros w128 c.args.set.now some (omega arith)).0, takes_least c.args.set.now some (omega arith))
