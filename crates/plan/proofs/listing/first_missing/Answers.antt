use Rattle.std.proofs.Common.{subst, arith, sym, ◌<◌, ◌^◌}
use Rattle.std.specs.Prelude.{bit_and}
use Rattle.std.specs.Int.{bit_not, w128}
use Rattle.std.proofs.lemmas.Nat.{and_le_l, or_lt}
use Rattle.liveness.specs.Liveness.{LiveIn}
use Rattle.liveness.specs.Sets.{IsSetOf}
use Rattle.plan.specs.Faults.{IsMissing}
use Rattle.plan.proofs.Lists.{least_taken, missing_set}
use Rattle.plan.proofs.listing.first_missing.Goals as goal

pub returns : goal.returns
returns c =
    let before = subst (λ set. IsSetOf (LiveIn c.args.code.now c.args.i) set) (sym c.live_in.ensures) (c.requires.live.live_in _ c.requires.here) in
    let all = missing_set c.args.code.now c.args.i c.args.places.now c.args.write c.live_in.result c.listed_set.result c.unplaced.result (omega arith) (omega arith)
    before c.listed_set.ensures c.unplaced.ensures in
    let part : bit_and c.live_in.result (bit_not w128 c.listed_set.result) < 2 ^ 128 =
    let le = and_le_l c.live_in.result (bit_not w128 c.listed_set.result) in omega arith in
    least_taken (IsMissing c.args.code.now c.args.i c.args.places.now c.args.write) _ _ c.take_least.result
    (or_lt 128 _ c.unplaced.result part (omega arith)) all c.take_least.ensures
