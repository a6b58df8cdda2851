use Rattle.std.proofs.Common.{◌≡◌, get_or, length, subst, sym, arith}
use Rattle.std.proofs.lemmas.Nat.Bits.{bit_at-zero}
use Rattle.liveness.specs.Liveness.{LiveIn}
use Rattle.liveness.specs.Sets.{IsSetOf}
use Rattle.range_colour.proofs.Gathering.{gathered_more, gathered_whole, none_gathered}
use Rattle.range_colour.proofs.group.gather.Goals as goal

pub members-init : goal.members-init
members-init c = record {
  gathered = none_gathered c.args.code.now c.args.members.now c.clear.new.meets (let e = c.clear.auto.meets in let long = c.requires.long in omega arith) c.clear.ensures;
  last = λ j k one two. absurd (let z = bit_at-zero j in omega arith);
}

pub members-preserved : goal.members-preserved
members-preserved c =
    let i = get_or c.args.members.now c.members.at 0 in
    let inside = c.requires.members c.members.at 0 c.members-test.true in
    let live_in = subst (IsSetOf (LiveIn c.args.code.now i)) (sym c.live_in-before.ensures) (c.requires.live.live_in i inside) in
    let long : length c.join-last-in-members.new.meets ≡ 128 = omega arith in record {
      gathered = gathered_more c.args.code.now c.args.members.now c.members.at inside _ _ _ _ _ _ _ _ c.members.invariant.gathered
          live_in c.values_after-after.ensures c.crossing.ensures c.join-last.ensures.exact c.join-last-in-members.ensures.exact long;
      last = c.join-last-in-members.ensures.last;
    }

pub returns : goal.returns
returns c =
    let end : c.members.at ≡ length c.args.members.now = omega arith in
    let long : length c.close.new.meets ≡ 128 = let yet = c.members.invariant.gathered.long in let kept = c.close.auto.meets in omega arith in
    gathered_whole c.args.code.now c.args.members.now c.members.at _ _ _ _ end c.members.invariant.gathered c.close.ensures long
