use Rattle.std.proofs.Common.{arith}
use Rattle.point_walk.proofs.Seated.{places_without}
use Rattle.point_walk.proofs.seats.places_within.Goals as goal

pub returns : goal.returns
returns c =
    places_without c.args.own c.args.taken c.args.part c.places_of.result c.args.places.now (omega arith) (omega arith) (omega arith) (omega arith) c.requires.apart c.requires.taken c.requires.within c.places_of.ensures
