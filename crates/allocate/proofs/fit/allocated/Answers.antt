use Rattle.std.proofs.Common.{refl, sym, ap, ◌∙◌, subst}
use Rattle.emitted.specs.Emitted.{ArePlans, PlansFit, emitted}
use Rattle.emit.specs.Totals.{glue_of_plans}
use Rattle.allocate.proofs.Allocating.{is_allocation, preferred_glue}
use Rattle.allocate.proofs.Rooming.{are_plans, has_room}
use Rattle.allocate.proofs.fit.allocated.Goals as goal

pub emit_counted-requires-clause-plans : goal.emit_counted-requires-clause-plans
emit_counted-requires-clause-plans c =
    let b = c.args.bundle.now in
    let budget = c.in_ok-made.made.budget in
    let plans = c.in_ok-made.made.plans in
    let chosen = c.in_ok-made.ensures.plans in
    subst (ArePlans b) (sym c.as_slice.ensures) (are_plans b budget.private budget.shared plans chosen)

pub emit_counted-requires-clause-room : goal.emit_counted-requires-clause-room
emit_counted-requires-clause-room c =
    let b = c.args.bundle.now in
    let budget = c.in_ok-made.made.budget in
    let plans = c.in_ok-made.made.plans in
    let chosen = c.in_ok-made.ensures.plans in
    subst (λ ps. PlansFit b ps budget) (sym c.as_slice.ensures)
    (has_room b budget.private budget.shared plans chosen c.args.analysis.parts c.requires.pressures c.in_ok-made.ensures.preferred.fits budget refl refl)

pub emit_counted-requires-clause-glue : goal.emit_counted-requires-clause-glue
emit_counted-requires-clause-glue c =
    let b = c.args.bundle.now in
    let budget = c.in_ok-made.made.budget in
    let plans = c.in_ok-made.made.plans in
    let chosen = c.in_ok-made.ensures.plans in
    preferred_glue b c.args.analysis.parts plans budget c.requires.formed c.requires.pressures c.in_ok-made.ensures.preferred chosen ∙ ap (glue_of_plans b) (sym c.as_slice.ensures)

pub returns-clause-allocation : goal.returns-clause-allocation
returns-clause-allocation c =
    let b = c.args.bundle.now in
    let budget = c.in_ok-made.made.budget in
    let plans = c.in_ok-made.made.plans in
    let chosen = c.in_ok-made.ensures.plans in
    is_allocation b c.args.analysis.parts plans budget c.in_ok-image.image c.args.need c.requires.formed c.requires.pressures c.in_ok-made.ensures.preferred chosen c.requires.need c.requires.fits
    (c.in_ok-image.ensures.image ∙ ap (λ ps. emitted b ps budget) c.as_slice.ensures)
