use Rattle.point_walk.specs.Walks.{WishFree}
use Rattle.point_walk.proofs.Slots.{wish_free, step_open, none_there}
use Rattle.point_walk.proofs.giving.give_wish_free.Goals as goal

pub returns-then-is_none-clause-given : goal.returns-then-is_none-clause-given
returns-then-is_none-clause-given c =
    step_open (WishFree c.args.wishes.now) c.args.register.0 c.args.places.now c.give.new.places c.if_untaken-wish.result
    (none_there c.is_none.result _ c.is_none.ensures c.if-is_none.true)
    (wish_free c.args.wishes.now c.args.places.now c.args.taken.now c.args.register.0 c.if_untaken-wish.result c.requires.taken c.if_untaken-wish.ensures)
    c.give.ensures.given
