use Rattle.std.proofs.Common.{ℕ, ◌+◌, List, Some, refl, subst, arith, inl}
use Rattle.std.specs.Prelude.{IfOk}
use Rattle.std.proofs.lemmas.Bool.Decides.{nat_tests}
use Rattle.std.proofs.lemmas.Result.{IfOk-weaker}
use Rattle.micro_isa.specs.declared.program.Line.{Line}
use Rattle.range_colour.specs.PlacedPlans.{IsWholeFit}
use Rattle.allocate.specs.Cells.{IsCellOf}
use Rattle.allocate.specs.Tables.{IsCellPlan, IsKeptBy}
use Rattle.allocate.proofs.Costing.{chosen_cell, kept_as, walk_kept_as}
use Rattle.allocate.proofs.planning.plan_of.Goals as goal

pub fit_plan-requires-clause-fits : goal.fit_plan-requires-clause-fits
fit_plan-requires-clause-fits c =
    let is = subst (IsKeptBy c.args.program.now.code c.args.part) c.in-Free.is (kept_as c.args.program.now.code c.args.part c.args.kept.now c.requires.part c.requires.kept) in
    let least = is.1 in
    grind (arith, nat_tests)

pub cell-requires-clause-fits : goal.cell-requires-clause-fits
cell-requires-clause-fits c =
    subst (IsKeptBy c.args.program.now.code c.args.part) c.in-Fitted.is (kept_as c.args.program.now.code c.args.part c.args.kept.now c.requires.part c.requires.kept)

pub cell-requires-clause-walk : goal.cell-requires-clause-walk
cell-requires-clause-walk c = walk_kept_as c.args.program.now.code c.args.part c.args.walk c.requires.part c.requires.walk

pub returns-in-Free-clause-chosen : goal.returns-in-Free-clause-chosen
returns-in-Free-clause-chosen c =
    let code = c.args.program.now.code in
    let p = c.args.part.private + c.more.result in
    let r = c.args.part.all + c.more-j.result in
    IfOk-weaker c.fit_plan.result (λ plan. IsWholeFit code p r (Some plan)) (λ plan. (cost : ℕ) × IsCellOf code c.args.size c.args.shared cost plan)
    (λ plan fit. chosen_cell code c.args.part c.args.size c.args.shared c.more.result c.more-j.result plan c.requires.part c.more.ensures.value c.more-j.ensures.value (0, inl (record { fit = fit; free = refl })))
    (subst (λ (l : List Line). IfOk c.fit_plan.result (λ plan. IsWholeFit l p r (Some plan))) c.as_slice-code.ensures c.fit_plan.ensures.fit)

pub returns-in-Fitted-clause-chosen : goal.returns-in-Fitted-clause-chosen
returns-in-Fitted-clause-chosen c =
    let code = c.args.program.now.code in
    IfOk-weaker c.cell.result (IsCellPlan code (c.args.part.private + c.more.result) (c.args.part.all + c.more-j.result)) (λ plan. (cost : ℕ) × IsCellOf code c.args.size c.args.shared cost plan)
    (λ plan cell. chosen_cell code c.args.part c.args.size c.args.shared c.more.result c.more-j.result plan c.requires.part c.more.ensures.value c.more-j.ensures.value cell) c.cell.ensures.cell
