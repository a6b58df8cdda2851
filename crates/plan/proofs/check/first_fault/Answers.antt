use Rattle.plan.proofs.Checked.{plan_checked}
use Rattle.plan.proofs.check.first_fault.Goals as goal

pub returns : goal.returns
returns c =
    plan_checked c.args.code.now c.args.plan.now c.as_slice-rows.result.now c.check_rows.result c.as_slice-rows.ensures
    (c.if-r-p.false, c.if-r-gt-MOST_FILE.false) c.if-rows-code.false c.check_rows.ensures
