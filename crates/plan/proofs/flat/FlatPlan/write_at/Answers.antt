use Rattle.std.proofs.Common.{◌≡◌, sym, ◌∙◌, ap, Some, None}
use Rattle.std.specs.Prelude.{slice_get}
use Rattle.plan.specs.declared.row.Plan.{Plan}
use Rattle.plan.specs.Rows.{write_in}
use Rattle.plan.proofs.Flattened.{row_get, row_none}
use Rattle.plan.proofs.flat.FlatPlan.write_at.Goals as goal

pub returns-in-Some : goal.returns-in-Some
returns-in-Some c =
    let there : slice_get c.self.inside.rows.items c.args.i ≡ Some c.in-Some.row = ap (λ rows. slice_get rows c.args.i) (sym c.deref.ensures.value) ∙ sym c.row_at.ensures ∙ c.in-Some.is in
    sym (ap write_in (row_get c.self.inside.entries.items c.self.inside.rows.items c.args.i c.in-Some.row there))
    ∙ ap (λ (plan : Plan). write_in (slice_get plan.rows c.args.i)) c.self.view_is

pub returns-in-None : goal.returns-in-None
returns-in-None c =
    let nowhere : slice_get c.self.inside.rows.items c.args.i ≡ None = ap (λ rows. slice_get rows c.args.i) (sym c.deref.ensures.value) ∙ sym c.row_at.ensures ∙ c.in-None.is in
    sym (ap write_in (row_none c.self.inside.entries.items c.self.inside.rows.items c.args.i nowhere))
    ∙ ap (λ (plan : Plan). write_in (slice_get plan.rows c.args.i)) c.self.view_is
