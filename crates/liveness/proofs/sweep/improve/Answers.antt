use Rattle.std.proofs.Common.{arith}
use Rattle.liveness.proofs.Visits.{sum_bound}
use Rattle.liveness.proofs.sweep.improve.Goals as goal

pub passes-smaller : goal.passes-smaller
passes-smaller c =
    let bound = sum_bound c.pass.new.sets c.type_inv.sets in
    let more = c.pass.ensures.grown.more c.passes-test.true in
    let as_many = c.pass.ensures.sweep.one_each in
    let before = c.passes.invariant.sweep.one_each in
    omega arith
