use Rattle.point_walk.proofs.Slots.{alone_place}
use Rattle.point_walk.proofs.giving.place_set.Goals as goal

pub returns-in-Some : goal.returns-in-Some
returns-in-Some c = rw c.in-Some.is (alone_place c.in-Some.x (c.requires c.in-Some.x c.in-Some.is))
