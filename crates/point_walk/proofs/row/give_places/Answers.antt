use Rattle.point_walk.proofs.Slots.{none_taken}
use Rattle.point_walk.proofs.row.give_places.Goals as goal

pub grant_below-requires-clause-taken : goal.grant_below-requires-clause-taken
grant_below-requires-clause-taken c = none_taken c.args.places.now c.requires.none
