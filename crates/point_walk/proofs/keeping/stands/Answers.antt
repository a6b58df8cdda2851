use Rattle.point_walk.proofs.Rows.{none_left}
use Rattle.point_walk.proofs.keeping.stands.Goals as goal

pub returns-then-before-own-eq0-clause-own : goal.returns-then-before-own-eq0-clause-own
returns-then-before-own-eq0-clause-own c = λ all. none_left c.args.before c.args.own c.ranges.before.fits c.ranges.own.fits c.if-before-own-eq0.true
