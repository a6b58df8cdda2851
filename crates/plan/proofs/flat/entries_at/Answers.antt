use Rattle.std.proofs.Common.{◌≡◌, sym, ◌∙◌, ap, arith, Some, None}
use Rattle.std.specs.Prelude.{slice_get}
use Rattle.plan.specs.Rows.{places_in}
use Rattle.plan.proofs.Flattened.{within, row_get, row_none}
use Rattle.plan.proofs.flat.entries_at.Goals as goal

pub part-requires-clause-order : goal.part-requires-clause-order
part-requires-clause-order c =
    let there : slice_get c.args.rows.now c.args.i ≡ Some c.in-Some.row = sym c.row_at.ensures ∙ c.in-Some.is in
    let bounds = within c.args.rows.now c.args.i _ c.in-Some.row c.requires there in
    let start = c.start_at.ensures in omega arith

pub part-requires-clause-within : goal.part-requires-clause-within
part-requires-clause-within c =
    let there : slice_get c.args.rows.now c.args.i ≡ Some c.in-Some.row = sym c.row_at.ensures ∙ c.in-Some.is in
    let bounds = within c.args.rows.now c.args.i _ c.in-Some.row c.requires there in
    let start = c.start_at.ensures in omega arith

pub returns-in-Some : goal.returns-in-Some
returns-in-Some c =
    let there : slice_get c.args.rows.now c.args.i ≡ Some c.in-Some.row = sym c.row_at.ensures ∙ c.in-Some.is in
    rw (c.part.ensures, c.start_at.ensures) (sym (ap places_in (row_get c.args.entries.now c.args.rows.now c.args.i c.in-Some.row there)))

pub returns-in-None : goal.returns-in-None
returns-in-None c =
    let nowhere : slice_get c.args.rows.now c.args.i ≡ None = sym c.row_at.ensures ∙ c.in-None.is in
    sym (ap places_in (row_none c.args.entries.now c.args.rows.now c.args.i nowhere))
