use Rattle.std.proofs.Common.{below_more, arith}
use Rattle.std.proofs.lemmas.List.Elements.{at_read}
use Rattle.budget.specs.Costs.{IsCostTable}
use Rattle.plan_cases.proofs.budgets.are_tables.Goals as goal

pub loop-table-preserved : goal.loop-table-preserved
loop-table-preserved c =
    below_more _ _ c.loop-table.invariant
    (at_read c.args.tables.now IsCostTable c.loop-table.table-index c.table-item.result c.loop-table-test.true c.table-item.is (c.is_table.ensures c.if-not-is_table.false))

pub returns : goal.returns
returns c e k d less = c.loop-table.invariant k (omega arith) d
