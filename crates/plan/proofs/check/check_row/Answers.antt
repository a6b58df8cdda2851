use Rattle.plan.proofs.Checked.{row_checked}
use Rattle.plan.proofs.check.check_row.Goals as goal

pub returns-in-Err : goal.returns-in-Err
returns-in-Err c = rw (← c.as_slice-places.ensures) (c.in-Err.ensures c.args.p c.args.r)

pub returns-in-Ok : goal.returns-in-Ok
returns-in-Ok c =
    row_checked c.args.code.now c.args.p c.args.r c.args.i c.args.row.now c.as_slice-places.result.now _ c.check_placing.result c.requires.here
    c.as_slice-places.ensures (c.requires.live.live_in _ c.requires.here) c.in-Ok.ensures c.check_placing.ensures
