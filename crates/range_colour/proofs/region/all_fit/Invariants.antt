use Rattle.std.proofs.Common.{ℕ, ◌≡◌, ◌<◌, Some, true, slice_get}
use Rattle.range_colour.specs.declared.fit.Fit.{Fit}
use Rattle.range_colour.specs.Regional.{fits_test}
use Rattle.range_colour.proofs.region.all_fit.Given as goal

abbrev pub invariant-fits : goal.invariant-fits
invariant-fits l = (g : ℕ) (fit : Fit) → g < l.fit-index → slice_get l.fits g ≡ Some fit → fits_test fit l.p l.r ≡ true
