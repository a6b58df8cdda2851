use Rattle.std.proofs.Common.{◌+◌, ◌-◌, ◌∙◌, ap, sym, ℕ, subst, List}
use Rattle.budget.specs.Best.{IsBest}
use Rattle.budget.specs.Choices.{sizes_of}
use Rattle.budget.proofs.Preferring.{is_best}
use Rattle.budget.proofs.balancing.divide.Goals as goal

pub returns : goal.returns
returns c =
    let mark = c.in_ok-cost.field-0 in
    let tables = c.args.tables.now in
    let best = is_best tables c.args.file c.args.gap c.requires.tables c.requires.gap mark c.in_ok-cost.ensures in
    let is = c.in_ok-private.ensures ∙ ap (λ (least : ℕ). sizes_of tables mark.shared (c.args.file - (least + mark.shared))) c.least_sum.ensures.value in
    subst (λ (sizes : List ℕ). IsBest tables c.args.file (record { private = sizes; shared = mark.shared; cost = mark.cost })) (sym is) best
