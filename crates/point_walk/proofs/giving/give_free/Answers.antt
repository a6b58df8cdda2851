use Rattle.std.proofs.Common.{◌<◌, Some, subst}
use Rattle.std.proofs.lemmas.Option.{same_Some}
use Rattle.point_walk.specs.Walks.{LeastFree}
use Rattle.point_walk.proofs.Slots.{room_for_all, least_is_free, step_open, none_there}
use Rattle.point_walk.proofs.giving.give_free.Goals as goal

pub give-requires-clause-low : goal.give-requires-clause-low
give-requires-clause-low c = λ x e.
    let least = least_is_free c.args.places.now c.args.taken.now c.least_free-place.result c.requires.taken c.least_free-place.ensures.free c.least_free-place.ensures.least in
    subst (λ n. n < 128) (same_Some c.least_free-place.result x e)
    (room_for_all c.args.places.now c.least_free-place.result c.args.register.0 c.requires.taken.is_table c.requires.low
    (none_there c.is_none.result _ c.is_none.ensures c.if-is_none.true) least.least)

pub returns-then-is_none-clause-given : goal.returns-then-is_none-clause-given
returns-then-is_none-clause-given c =
    step_open LeastFree c.args.register.0 c.args.places.now c.give.new.places (Some c.least_free-place.result)
    (none_there c.is_none.result _ c.is_none.ensures c.if-is_none.true)
    (least_is_free c.args.places.now c.args.taken.now c.least_free-place.result c.requires.taken c.least_free-place.ensures.free c.least_free-place.ensures.least)
    c.give.ensures.given
