use Rattle.std.proofs.Common.{ℕ, ◌∷◌, [], List, get_or, length-append, sym, subst, ◌∙◌, arith}
use Rattle.range_colour.specs.declared.fit.Fit.{Fit}
use Rattle.range_colour.specs.Groups.{Among}
use Rattle.range_colour.specs.Fits.{IsFit}
use Rattle.range_colour.proofs.Grouping.{read_default}
use Rattle.range_colour.proofs.Planning.{pushed_each}
use Rattle.range_colour.proofs.region.fits_over.Goals as goal

pub groups-preserved : goal.groups-preserved
groups-preserved c =
    let Fitted : ℕ → Fit → Type 0 = λ g fit. IsFit c.args.code.now (Among (get_or c.args.groups.now g [])) fit in
    let fit = c.in_ok-fit.fit in
    let whole = c.groups.invariant.one_each in
    let members = c.as_slice.ensures ∙ c.members-item.is ∙ read_default c.args.groups.now c.groups.members-index _ [] c.groups-test.true in
    let here = subst (λ (xs : List ℕ). IsFit c.args.code.now (Among xs) fit) members c.in_ok-fit.ensures in
    let last = subst (λ n. Fitted n fit) (sym whole) here in
    let each = pushed_each Fitted c.groups.fits fit c.groups.invariant.each last in
    let long = length-append c.groups.fits (fit ∷ []) in
    record {
      one_each = rw c.in-Ok.ensures.ok (omega arith);
      each = rw c.in-Ok.ensures.ok each;
    }
