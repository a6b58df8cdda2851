use Rattle.std.proofs.Common.{◌≡◌, ◌<◌, ◌+◌, ◌^◌, arith, subst, sym}
use Rattle.std.specs.Int.{bit_at, w128}
use Rattle.std.proofs.lemmas.Nat.Bits.{bit_at_ones, bit_at-trailing_ones}
use Rattle.point_walk.proofs.giving.least_free.Goals as goal

pub returns-then-taken-eq340282366920938463463374607431768211455-clause-least : goal.returns-then-taken-eq340282366920938463463374607431768211455-clause-least
returns-then-taken-eq340282366920938463463374607431768211455-clause-least c =
    λ y less. subst (λ n. bit_at n y ≡ 1) (sym c.if-taken-eq340282366920938463463374607431768211455.true) (bit_at_ones 128 y less)

pub returns-clause-free : goal.returns-clause-free
returns-clause-free c =
    let room : c.args.taken + 1 < 2 ^ 128 = omega (arith, c.if-taken-eq340282366920938463463374607431768211455.false) in
    rw c.trailing_ones.ensures (bit_at-trailing_ones w128 c.args.taken room).1

pub returns-clause-least : goal.returns-clause-least
returns-clause-least c =
    let room : c.args.taken + 1 < 2 ^ 128 = omega (arith, c.if-taken-eq340282366920938463463374607431768211455.false) in
    rw c.trailing_ones.ensures (bit_at-trailing_ones w128 c.args.taken room).2
