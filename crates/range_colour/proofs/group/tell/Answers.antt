use Rattle.std.proofs.Common.{List, ℕ, subst, ◌∙◌, arith}
use Rattle.std.proofs.Math.ListN.{length-set}
use Rattle.liveness.specs.Sets.{members}
use Rattle.range_colour.proofs.Telling.{AreTold, none_due, told_more}
use Rattle.range_colour.proofs.group.tell.Goals as goal

pub registers-preserved : goal.registers-preserved
registers-preserved c =
    let now = c.registers.meets in
    let long = c.registers.invariant.long in
    let low = c.in-Some.ensures.0 in
    let told = subst (λ (ks : List ℕ). AreTold now c.args.meets.now c.args.set ks (members 128 c.args.registers)) c.in-Some.ensures.1 c.registers.invariant.told in record {
      long = length-set now c.in-Some.register.0 _ ∙ long;
      told = told_more now c.args.meets.now c.args.set c.in-Some.register.0 _ _ (omega arith) told;
    }

pub returns : goal.returns
returns c j k = none_due _ _ _ k c.registers.rest c.args.registers c.ranges.registers.fits c.in_default.ensures (c.registers.invariant.told j k)
