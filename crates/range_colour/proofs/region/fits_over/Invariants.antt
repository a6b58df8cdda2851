use Rattle.std.proofs.Common.{ℕ, ◌≡◌, [], Some, length, slice_get}
use Rattle.std.specs.Prelude.{slice_index_or}
use Rattle.range_colour.specs.declared.fit.Fit.{Fit}
use Rattle.range_colour.specs.Groups.{Among}
use Rattle.range_colour.specs.Fits.{IsFit}
use Rattle.range_colour.proofs.region.fits_over.Given as goal

abbrev pub invariant-groups : goal.invariant-groups
invariant-groups l = record {
  one_each : length l.fits ≡ l.members-index;
  each : (g : ℕ) (fit : Fit) → slice_get l.fits g ≡ Some fit → IsFit l.code (Among (slice_index_or l.groups g [])) fit;
}
