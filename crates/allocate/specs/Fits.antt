-- What the fits of a program tell.
use Rattle.std.specs.Prelude.{ℕ, ◌≡◌, ◌≢◌, ◌+◌, ◌<◌, ◌≤◌, Bool, true, false, List, Some, None, length, slice_get, slice_index}
use Rattle.std.specs.List.{Contains}
use Rattle.micro_isa.specs.declared.limits.TheConstants.{MOST_FILE}
use Rattle.micro_isa.specs.declared.program.Line.{Line}
use Rattle.plan.specs.declared.row.Plan.{Plan}
use Rattle.pressure.specs.Regions.{AreRegionsOf, count_in}
use Rattle.range_colour.specs.declared.fit.Fit.{Fit}
use Rattle.range_colour.specs.PlacedPlans.{IsWholeFit, IsRegionFit}
use Rattle.range_colour.specs.Fits.{IsFit, places_in}
use Rattle.range_colour.specs.Groups.{Every}
use Rattle.range_colour.specs.Regional.{AreFirstFits, DoFit, fits_test}
use Rattle.budget.specs.declared.TheConstants.{SIZES}
use Rattle.emitted.specs.Words.{glue_of}
use Rattle.allocate.specs.declared.fits.Fits.{Fits}
use Rattle.allocate.specs.declared.region_costs.RegionCosts.{RegionCosts}
use Rattle.allocate.specs.declared.region_costs.RegionCosts.TheVariants.{Unknown, Above, RunOut, Exact}

-- the fit over the whole program has a plan, or runs out
abbrev pub TellsWhole : List Line → ℕ → ℕ → Bool → Type 0
TellsWhole code p r true = (plan : Plan) × IsWholeFit code p r (Some plan)
TellsWhole code p r false = IsWholeFit code p r None

-- no plan by the fits over the regions has so little glue
abbrev pub IsDearer : List Line → ℕ → ℕ → ℕ → Type 0
IsDearer code p r words = (plan : Plan) → IsRegionFit code p r (Some plan) → words < glue_of code plan

-- none has, whatever the number of places
abbrev pub AreDearer : List Line → ℕ → Type 0
AreDearer code words = (p r : ℕ) → IsDearer code p r words

-- what is known of the plans by the fits over the regions is so: where it is exact and the fits do fit there is a plan with this
-- glue, and where one doesn't there is none
abbrev pub TellsRegions : List Line → ℕ → ℕ → ℕ → List Fit → RegionCosts → Type 0
TellsRegions code p r j fits Unknown = Unit {0}
TellsRegions code p r j fits (Above words) = IsDearer code p r words
TellsRegions code p r j fits RunOut = IsRegionFit code p r None
TellsRegions code p r j fits (Exact costs) =
    (DoFit fits p r false → IsRegionFit code p r None)
    × (DoFit fits p r true → (plan : Plan) × IsRegionFit code p r (Some plan) × (slice_index costs j ≡ glue_of code plan))

-- it is so for `from` places in all, for one more, and so on
abbrev pub AreRegionCosts : List Line → ℕ → List Fit → RegionCosts → Type 0
AreRegionCosts code from fits costs =
    (j p : ℕ) → j < SIZES → p ≤ from + j → from + j ≤ MOST_FILE → TellsRegions code p (from + j) j fits costs

-- the fits are those of the code: over the whole of it, and over the first of its regions
pub record AreFitsOf (code : List Line) (fits : Fits) : Type 0 where
  pub fit : IsFit code Every fits.whole
  pub division : AreRegionsOf code fits.division
  pub parts : AreFirstFits code fits.division (length fits.regions) fits.regions
  pub whole : (p r : ℕ) → p ≤ r → r ≤ MOST_FILE → TellsWhole code p r (fits_test fits.whole p r)

-- the fits over all regions are there
abbrev pub AreAllThere : Fits → Type 0
AreAllThere fits = length fits.regions ≡ count_in fits.division

-- two fits give a register of the list different places
pub record DoDiffer (fits : List Fit) (first second : ℕ) (registers : List ℕ) : Type 0 where
  pub one : Fit
  pub other : Fit
  pub is_one : slice_get fits first ≡ Some one
  pub is_other : slice_get fits second ≡ Some other
  pub register : ℕ
  pub listed : Contains registers register
  pub apart : slice_index (places_in one) register ≢ slice_index (places_in other) register
