use Rattle.std.proofs.Common.{inl, inr}
use Rattle.range_colour.proofs.Bits.{part_of}
use Rattle.range_colour.proofs.Telling.{half_joined}
use Rattle.range_colour.proofs.group.join.Goals as goal

pub returns-then-others-eq0-clause-exact : goal.returns-then-others-eq0-clause-exact
returns-then-others-eq0-clause-exact c j k = (
  λ meet. inl meet,
  λ some. elim some [
    | inl meet ↦ meet
    | inr both ↦ c.requires.last j k
        (part_of c.args.set c.args.last j c.ranges.set.fits c.ranges.last.fits c.if-others-eq0.true both.0)
        (part_of c.args.set c.args.last k c.ranges.set.fits c.ranges.last.fits c.if-others-eq0.true both.1)
  ],
)

pub returns-clause-exact : goal.returns-clause-exact
returns-clause-exact c = half_joined c.args.meets.now c.tell.new.meets c.args.set c.args.last c.ranges.set.fits c.ranges.last.fits c.requires.last c.tell.ensures

pub returns-clause-last : goal.returns-clause-last
returns-clause-last c j k one two =
    (half_joined c.args.meets.now c.tell.new.meets c.args.set c.args.last c.ranges.set.fits c.ranges.last.fits c.requires.last c.tell.ensures j k).1 (inr (one, two))
