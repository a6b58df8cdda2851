use Rattle.point_walk.proofs.Slots.{given_taken}
use Rattle.point_walk.proofs.giving.give.Goals as goal

pub returns-clause-taken : goal.returns-clause-taken
returns-clause-taken c = given_taken _ c.args.k _ c.place_set.result c.args.place c.requires.here c.requires.open c.requires.low c.requires.taken c.place_set.ensures
