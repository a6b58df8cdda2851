use Rattle.std.proofs.Common.{◌+◌, List, Some, refl, sym, ◌∙◌, subst, inl}
use Rattle.std.specs.Prelude.{IfOk}
use Rattle.std.proofs.lemmas.Result.{IfOk-weaker}
use Rattle.micro_isa.specs.declared.program.Line.{Line}
use Rattle.plan.specs.ValidPlans.{IsValidPlan}
use Rattle.range_colour.specs.Fits.{IsFit}
use Rattle.range_colour.specs.Groups.{Every}
use Rattle.range_colour.specs.PlacedPlans.{IsWholeFit}
use Rattle.allocate.specs.Fits.{TellsWhole}
use Rattle.allocate.specs.Tables.{IsCellPlan}
use Rattle.allocate.proofs.cell.cell.Goals as goal

pub fit_plan-requires-clause-fit : goal.fit_plan-requires-clause-fit
fit_plan-requires-clause-fit c = subst (λ (code : List Line). IsFit code Every c.args.fits.now.whole) (sym c.as_slice-code.ensures) c.requires.fits.fit

pub returns-then-fits-clause-cell : goal.returns-then-fits-clause-cell
returns-then-fits-clause-cell c =
    let r = c.args.from + c.args.j in
    IfOk-weaker c.fit_plan.result (λ plan. IsWholeFit c.args.program.now.code c.args.p r (Some plan)) (IsCellPlan c.args.program.now.code c.args.p r)
    (λ plan fit. (0, inl (record { fit = fit; free = refl })))
    (subst (λ (code : List Line). IfOk c.fit_plan.result (λ plan. IsWholeFit code c.args.p r (Some plan))) c.as_slice-code.ensures c.fit_plan.ensures.fit)

pub returns-then-fits-clause-valid : goal.returns-then-fits-clause-valid
returns-then-fits-clause-valid c = subst (λ (code : List Line). IfOk c.fit_plan.result (IsValidPlan code)) c.as_slice-code.ensures c.fit_plan.ensures.valid

pub lesser-requires-clause-out : goal.lesser-requires-clause-out
lesser-requires-clause-out c =
    let r = c.args.from + c.args.j in
    subst (TellsWhole c.args.program.now.code c.args.p r) (sym c.fits.ensures ∙ c.if-fits.false) (c.requires.fits.whole c.args.p r c.requires.order c.requires.few)
