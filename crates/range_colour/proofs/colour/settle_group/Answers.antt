use Rattle.std.proofs.Common.{arith}
use Rattle.range_colour.proofs.Fitting.{others_bits, taken_whole}
use Rattle.range_colour.proofs.colour.settle_group.Goals as goal

pub settle_all-requires-2-clause-places : goal.settle_all-requires-2-clause-places
settle_all-requires-2-clause-places c k one =
    let member = ((others_bits c.args.registers c.args.crossing k c.ranges.registers.fits c.ranges.crossing.fits).0 one).0 in
    let low = c.requires.places k member in
    let long = c.in_ok-p.ensures.settled.long in omega arith

pub settle_all-requires-2-clause-done : goal.settle_all-requires-2-clause-done
settle_all-requires-2-clause-done c k yet one = ((others_bits c.args.registers c.args.crossing k c.ranges.registers.fits c.ranges.crossing.fits).0 one).1 yet

pub settle_all-requires-2-clause-taken : goal.settle_all-requires-2-clause-taken
settle_all-requires-2-clause-taken c = taken_whole c.args.crossing _ _ c.ranges.crossing.fits c.in_ok-p.ensures.settled.taken
