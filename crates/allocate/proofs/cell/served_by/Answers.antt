use Rattle.std.proofs.Common.{◌+◌}
use Rattle.plan.specs.declared.row.Plan.{Plan}
use Rattle.point_walk.proofs.Rooms.{room_of}
use Rattle.point_walk.proofs.Valid.{walk_valid}
use Rattle.allocate.proofs.cell.served_by.Goals as goal

pub returns : goal.returns
returns c = λ code closed private total order priced.
    let r = c.args.from + c.args.j in
    let rows = c.serves.ensures c.if-not-serves.false code c.args.from priced in
    let plan : Plan = record { p = c.args.p; r = r; rows = c.args.walk.route.plan.rows } in
    rw c.resized.ensures (record {
      walk = rows r;
      cost = priced.costs c.args.j c.requires.within;
      valid = walk_valid code c.args.p r plan order c.requires.few closed (room_of code c.args.p r private total) (rows r);
    })
