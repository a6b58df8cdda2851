use Rattle.std.proofs.Common.{arith}
use Rattle.range_colour.proofs.Planning.{placed_all, placed_more, placed_none}
use Rattle.range_colour.proofs.whole.rows.Goals as goal

pub lines-init : goal.lines-init
lines-init c = rw c.reserve.ensures (placed_none _ _ _ c.requires.empty)

pub push_row_at-requires-clause-inside : goal.push_row_at-requires-clause-inside
push_row_at-requires-clause-inside c k used = c.requires.inside c.lines.i k c.lines-test.true used

pub push_row_at-requires-clause-small : goal.push_row_at-requires-clause-small
push_row_at-requires-clause-small c k used = c.requires.small c.lines.i k c.lines-test.true used

pub lines-preserved : goal.lines-preserved
lines-preserved c = placed_more _ _ _ _ _ _ _ c.lines.invariant c.in_ok-push_row_at.ensures

pub returns : goal.returns
returns c = placed_all _ _ _ _ _ _ (omega arith) c.lines.invariant
