use Rattle.std.proofs.Common.{arith}
use Rattle.liveness.proofs.Visits.{sum_bound, settled}
use Rattle.liveness.proofs.sweep.settle.Goals as goal

pub rounds-smaller : goal.rounds-smaller
rounds-smaller c =
    let bound = sum_bound c.improve-in-rounds.new.sets c.type_inv.sets in
    let more = c.sweep.ensures.grown.more c.rounds-test.true in
    let kept = c.improve-in-rounds.ensures.kept in
    let as_many = c.improve-in-rounds.ensures.sweep.one_each in
    let before = c.rounds.invariant.one_each in
    omega arith

pub returns : goal.returns
returns c =
    let ends = c.sweep.ensures.sweep in
    settled _ _ ends.closed ends.one_each c.type_inv.sets ends.sound (c.sweep.ensures.settled c.rounds-test.false)
