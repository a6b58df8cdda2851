use Rattle.std.proofs.Common.{sym, ap, ◌∙◌, arith}
use Rattle.std.specs.Prelude.{if◌then◌else◌}
use Rattle.point_walk.specs.Walks.{put, nothing}
use Rattle.point_walk.proofs.Rows.{cleared_all}
use Rattle.point_walk.proofs.Seated.{no_seats, seats_put}
use Rattle.point_walk.proofs.row.leave.Goals as goal

pub returns-then-falls-clause-seats : goal.returns-then-falls-clause-seats
returns-then-falls-clause-seats c =
    seats_put c.args.table.now c.put_write.new.table c.args.stay c.register_set-alone.result c.place_set.result c.args.written c.args.write c.requires.table c.requires.small (omega arith) (omega arith) (omega arith)
    c.requires.seats c.requires.place c.requires.alone c.register_set-alone.ensures c.place_set.ensures c.put_write.ensures

pub returns-else-falls-clause-left : goal.returns-else-falls-clause-left
returns-else-falls-clause-left c =
    c.clear.ensures ∙ cleared_all c.args.table.now c.args.stay.held c.requires.table c.requires.seats.among ∙ ap (λ b. if b then put c.args.written c.args.write c.args.table.now else nothing) (sym c.if-falls.false)

pub returns-else-falls-clause-seats : goal.returns-else-falls-clause-seats
returns-else-falls-clause-seats c =
    no_seats c.clear.new.table (c.clear.ensures ∙ cleared_all c.args.table.now c.args.stay.held c.requires.table c.requires.seats.among)
