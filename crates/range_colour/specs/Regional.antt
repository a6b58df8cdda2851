-- First fits of regions.
use Rattle.std.specs.Prelude.{ℕ, ◌≡◌, ◌<◌, ◌↔◌, ◌&&◌, Bool, true, false, nat_le, List, [], Option, Some, None, length, slice_get, slice_index, slice_index_or}
use Rattle.micro_isa.specs.declared.program.Line.{Line}
use Rattle.pressure.specs.declared.region.Regions.{Regions}
use Rattle.pressure.specs.Regions.{numbers_in, count_in}
use Rattle.range_colour.specs.declared.fit.Fit.{Fit}
use Rattle.range_colour.specs.Groups.{Among}
use Rattle.range_colour.specs.Fits.{IsFit, least_all, least_private, places_in}

-- group g has the instructions below n whose number it is
pub record IsGroupedTo (numbers : List ℕ) (count n : ℕ) (groups : List (List ℕ)) : Type 0 where
  pub one_each : length groups ≡ count
  pub each : (g i : ℕ) → g < count → Among (slice_index_or groups g []) i ↔ ((i < n) × (slice_index numbers i ≡ g))

-- for each group its first fit
pub record AreFitsOver (code : List Line) (groups : List (List ℕ)) (fits : List Fit) : Type 0 where
  pub one_each : length fits ≡ length groups
  pub each : (g : ℕ) (fit : Fit) → slice_get fits g ≡ Some fit → IsFit code (Among (slice_index_or groups g [])) fit

-- the instructions of region g
abbrev pub OfRegion : Regions → ℕ → ℕ → Type 0
OfRegion regions g i = slice_index (numbers_in regions) i ≡ g

-- for each of the first n regions its first fit
pub record AreFirstFits (code : List Line) (regions : Regions) (n : ℕ) (fits : List Fit) : Type 0 where
  pub one_each : length fits ≡ n
  pub each : (g : ℕ) (fit : Fit) → slice_get fits g ≡ Some fit → IsFit code (OfRegion regions g) fit

-- for each region its first fit
abbrev pub AreFits : List Line → Regions → List Fit → Type 0
AreFits code regions fits = AreFirstFits code regions (count_in regions) fits

abbrev pub places_told : Option Fit → List ℕ
places_told None = []
places_told (Some fit) = places_in fit

-- the places of the fit with this number
abbrev pub places_at : List Fit → ℕ → List ℕ
places_at fits g = places_told (slice_get fits g)

-- the places that an instruction's region gives
abbrev pub places_for : Regions → List Fit → ℕ → List ℕ
places_for regions fits i = places_at fits (slice_index (numbers_in regions) i)

-- the fit fits in these sizes
abbrev pub fits_test : Fit → ℕ → ℕ → Bool
fits_test fit p r = nat_le (least_private fit) p && nat_le (least_all fit) r

-- whether all fit
pub record DoFit (fits : List Fit) (p r : ℕ) (result : Bool) : Type 0 where
  pub all : result ≡ true → (g : ℕ) (fit : Fit) → slice_get fits g ≡ Some fit → fits_test fit p r ≡ true
  pub some : result ≡ false → (g : ℕ) × (fit : Fit) × (slice_get fits g ≡ Some fit) × (fits_test fit p r ≡ false)
