use Rattle.std.proofs.Common.{ℕ, ◌≡◌, List, ap, subst, ◌∙◌, arith}
use Rattle.std.specs.Prelude.{slice_index}
use Rattle.plan.specs.declared.row.PlanRow.{PlanRow}
use Rattle.plan.specs.Rows.{with_row}
use Rattle.range_colour.specs.PlacedPlans.{IsPlacedRow}
use Rattle.range_colour.specs.Regional.{places_at}
use Rattle.range_colour.proofs.Planning.{placed_all, placed_more, placed_none}
use Rattle.range_colour.proofs.region.rows.Goals as goal

pub lines-init : goal.lines-init
lines-init c = rw c.reserve.ensures (placed_none _ _ _ c.requires.empty)

pub push_row_at-requires-clause-inside : goal.push_row_at-requires-clause-inside
push_row_at-requires-clause-inside c k used =
    let is = c.places_at-places.ensures ∙ ap (places_at c.args.fits.now) c.region_of.ensures in
    rw is (c.requires.inside c.lines.i k c.lines-test.true used)

pub push_row_at-requires-clause-small : goal.push_row_at-requires-clause-small
push_row_at-requires-clause-small c k used =
    let is = c.places_at-places.ensures ∙ ap (places_at c.args.fits.now) c.region_of.ensures in
    rw is (c.requires.small c.lines.i k c.lines-test.true used)

pub lines-preserved : goal.lines-preserved
lines-preserved c =
    let is = c.places_at-places.ensures ∙ ap (places_at c.args.fits.now) c.region_of.ensures in
    let more = subst (λ (xs : List ℕ). (row : PlanRow) × IsPlacedRow c.args.code.now c.lines.i (slice_index xs) row × (c.push_row_at.new.plan ≡ with_row c.lines.plan row)) is c.in_ok-push_row_at.ensures in
    placed_more _ _ _ _ _ _ _ c.lines.invariant more

pub returns : goal.returns
returns c = placed_all _ _ _ _ _ _ (omega arith) c.lines.invariant
