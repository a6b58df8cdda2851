use Rattle.std.proofs.Common.{subst, sym, ◌≡◌, None}
use Rattle.std.specs.Int.{bit_at}
use Rattle.liveness.specs.Liveness.{LiveIn}
use Rattle.liveness.specs.Sets.{IsSetOf}
use Rattle.plan.specs.Faults.{IsExtra}
use Rattle.plan.proofs.Lists.{extra_same, first_same}
use Rattle.plan.proofs.listing.first_unlive.Goals as goal

pub returns : goal.returns
returns c =
    let live = LiveIn c.args.code.now c.args.i in
    let set = c.live_in.result in
    let is = subst (λ s. IsSetOf (LiveIn c.args.code.now c.args.i) s) (sym c.live_in.ensures) (c.requires.live.live_in _ c.requires.here) in
    first_same (IsExtra (λ k. bit_at c.live_in.result k ≡ 1) None c.args.places.now) (IsExtra (LiveIn c.args.code.now c.args.i) None c.args.places.now) c.first_extra.result
    (λ k. (
      extra_same (λ k. bit_at c.live_in.result k ≡ 1) (LiveIn c.args.code.now c.args.i) None c.args.places.now k (λ j. (is.exact j).1),
      extra_same (LiveIn c.args.code.now c.args.i) (λ k. bit_at c.live_in.result k ≡ 1) None c.args.places.now k (λ j. (is.exact j).0),
    ))
    c.first_extra.ensures
