use Rattle.std.proofs.Common.{◌≡◌, ℕ, List, length, subst, arith}
use Rattle.liveness.specs.Sets.{members}
use Rattle.range_colour.proofs.Telling.{IsClosing, closing_more, none_due}
use Rattle.range_colour.proofs.group.close.Goals as goal

pub registers-preserved : goal.registers-preserved
registers-preserved c =
    let now = c.registers.meets in
    let long : length c.tell.new.meets ≡ 128 = let yet = c.registers.invariant.long in let kept = c.tell.auto.meets in omega arith in
    let closing = subst (λ (ks : List ℕ). IsClosing now c.args.meets.now ks (members 128 c.args.registers)) c.in-Some.ensures.1 c.registers.invariant.closing in record {
      long = long;
      closing = closing_more c.tell.new.meets now c.args.meets.now c.in-Some.register.0 _ _ c.in-Some.ensures.0 closing c.tell.ensures;
    }

pub returns : goal.returns
returns c j k = none_due _ _ _ j c.registers.rest c.args.registers c.ranges.registers.fits c.in_default.ensures (c.registers.invariant.closing.exact j k)
