use Rattle.range_colour.proofs.Bits.{below_leading}
use Rattle.range_colour.proofs.group.width.Goals as goal

pub returns-clause-above : goal.returns-clause-above
returns-clause-above c k one = below_leading c.args.set k c.ranges.set.fits one
