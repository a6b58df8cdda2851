use Rattle.std.proofs.Common.{ℕ, List, subst}
use Rattle.std.specs.Prelude.{IfOk}
use Rattle.range_colour.specs.Regional.{AreFirstFits, AreFitsOver}
use Rattle.range_colour.proofs.Grouping.{fits_of, members_inside}
use Rattle.range_colour.proofs.Planning.{ok_weaker}
use Rattle.range_colour.proofs.region.first_region_fits.Goals as goal

pub fits_over-requires-clause-members : goal.fits_over-requires-clause-members
fits_over-requires-clause-members c =
    rw c.as_slice.ensures.value (members_inside c.args.code.now c.args.regions.now c.requires.regions c.args.most c.in_ok-groups.groups.items c.in_ok-groups.ensures)

pub returns : goal.returns
returns c =
    let code = c.args.code.now in
    let groups = c.in_ok-groups.groups.items in
    ok_weaker (AreFitsOver code groups) (AreFirstFits code c.args.regions.now c.args.most)
    (λ fits over. fits_of code c.args.regions.now c.requires.regions c.args.most groups fits c.in_ok-groups.ensures over)
    _ (subst (λ (xs : List (List ℕ)). IfOk c.fits_over.result (AreFitsOver code xs)) c.as_slice.ensures.value c.fits_over.ensures)
