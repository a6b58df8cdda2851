use Rattle.std.proofs.Common.{refl, arith}
use Rattle.budget.proofs.Needs.{need_is}
use Rattle.budget.proofs.Preferring.{best_once, can_fit}
use Rattle.budget.proofs.balancing.balance.Goals as goal

pub returns-then-file-need-clause-refused : goal.returns-then-file-need-clause-refused
returns-then-file-need-clause-refused c =
    let is = need_is c.args.tables.now _ c.greatest_gap-gap.ensures.value in
    let sum = c.least_sum.ensures.value in
    (omega arith, refl, omega arith)

pub returns-then-file-need-clause-can : goal.returns-then-file-need-clause-can
returns-then-file-need-clause-can c = can_fit c.args.tables.now c.args.file

pub returns-then-file-need-clause-once : goal.returns-then-file-need-clause-once
returns-then-file-need-clause-once c = best_once c.args.tables.now c.args.file

pub returns-clause-can : goal.returns-clause-can
returns-clause-can c = can_fit c.args.tables.now c.args.file

pub returns-clause-once : goal.returns-clause-once
returns-clause-once c = best_once c.args.tables.now c.args.file
