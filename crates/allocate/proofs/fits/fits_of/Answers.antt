use Rattle.std.proofs.Common.{ℕ, ◌≡◌, List, Some, slice_get, refl, subst}
use Rattle.micro_isa.specs.declared.program.Line.{Line}
use Rattle.range_colour.specs.declared.fit.Fit.{Fit}
use Rattle.range_colour.specs.Fits.{IsFit}
use Rattle.range_colour.specs.Regional.{OfRegion}
use Rattle.allocate.proofs.Existing.{whole_tells}
use Rattle.allocate.proofs.fits.fits_of.Goals as goal

pub returns : goal.returns
returns c = record {
  fit = c.requires.whole;
  division = c.in_ok-division.ensures;
  parts = record {
    one_each = refl;
    each = subst (λ (code : List Line). (g : ℕ) (fit : Fit) → slice_get c.in_ok-regions.regions g ≡ Some fit → IsFit code (OfRegion c.in_ok-division.division g) fit) c.as_slice.ensures c.in_ok-regions.ensures.each;
  };
  whole = λ p r order few. whole_tells c.args.program.now.code c.args.live.now c.args.whole p r c.requires.closed c.requires.live c.requires.whole order few;
}
