use Rattle.std.proofs.Common.{◌∙◌, ap, arith}
use Rattle.budget.specs.declared.choice.Entry.{Entry}
use Rattle.budget.proofs.Choosing.{entry_small, entry_within}
use Rattle.budget.proofs.choice.entry_at.Goals as goal

pub returns-clause-extra : goal.returns-clause-extra
returns-clause-extra c =
    let is = c.index.ensures ∙ c.in_ok-row.ensures.row.each c.args.spare c.index.result.now (omega (arith, c.in_ok-row.ensures.whole)) in
    let small = (entry_small c.args.tables.now c.args.shared c.args.spare c.requires.tables).extra in
    omega (arith, ap (λ (e : Entry). e.extra) is)

pub returns-clause-step : goal.returns-clause-step
returns-clause-step c =
    let is = c.index.ensures ∙ c.in_ok-row.ensures.row.each c.args.spare c.index.result.now (omega (arith, c.in_ok-row.ensures.whole)) in
    let small = entry_within c.args.tables.now c.args.shared c.args.spare in
    omega (arith, ap (λ (e : Entry). e.step) is)
