use Rattle.std.proofs.Common.{arith, subst}
use Rattle.plan.specs.declared.row.PlanRow.{PlanRow}
use Rattle.plan.specs.ValidPlans.{IsValidRow}
use Rattle.plan.proofs.Checked.{rows_more}
use Rattle.plan.proofs.check.check_rows.Goals as goal

pub rows-preserved : goal.rows-preserved
rows-preserved c =
    rows_more c.args.code.now c.args.p c.args.r c.args.rows.now c.rows.i c.index-rows-i.result c.rows.invariant c.rows-test.true
    (subst (λ (row : PlanRow). IsValidRow c.args.code.now c.args.p c.args.r c.rows.i row) c.index-rows-i.is c.in_default.ensures)

pub returns : goal.returns
returns c = λ j row less is. c.rows.invariant j row (omega arith) is
