use Rattle.std.proofs.lemmas.Result.{IfOk-weaker}
use Rattle.plan.specs.ValidPlans.{IsValidPlan}
use Rattle.point_walk.specs.declared.walking.Route.{Route}
use Rattle.point_walk.specs.Walks.{IsWalk}
use Rattle.point_walk.proofs.Rooms.{room_of}
use Rattle.point_walk.proofs.Valid.{walk_valid}
use Rattle.point_walk.proofs.walking.walk_route.Goals as goal

pub walk_rows-requires-clause-room : goal.walk_rows-requires-clause-room
walk_rows-requires-clause-room c = rw c.as_slice.ensures (room_of c.args.program.now.code c.args.p c.args.r c.requires.private c.requires.total)

pub returns-clause-valid : goal.returns-clause-valid
returns-clause-valid c =
    IfOk-weaker c.walk_rows.result (λ (route : Route). IsWalk c.args.program.now.code c.args.p c.args.r route.plan) (λ (route : Route). IsValidPlan c.args.program.now.code route.plan)
    (λ route walked. walk_valid c.args.program.now.code c.args.p c.args.r route.plan c.requires.order c.requires.few c.requires.closed
    (room_of c.args.program.now.code c.args.p c.args.r c.requires.private c.requires.total) walked)
    (rw (← c.as_slice.ensures) c.walk_rows.ensures.walked)
