-- What a fit tells of its group.
use Rattle.std.specs.Prelude.{ℕ, ◌≡◌, ◌+◌, ◌<◌, ◌⊎◌, List, length, slice_index}
use Rattle.micro_isa.specs.declared.program.Line.{Line}
use Rattle.range_colour.specs.declared.fit.Fit.{Fit}
use Rattle.range_colour.specs.Groups.{CrossesIn, MeetsIn}
use Rattle.range_colour.specs.PlacedPlans.{IsFitOf}

abbrev pub places_in : Fit → List ℕ
places_in fit = fit.places

-- one above the greatest place of a crossing register
abbrev pub least_private : Fit → ℕ
least_private fit = fit.least.p

-- one above the greatest place of another register
abbrev pub least_all : Fit → ℕ
least_all fit = fit.least.r

-- the places are those of the first fit of the group, and the sizes are the least that it fits in
pub record IsFitBy (code : List Line) (Group : ℕ → Type 0) (places : List ℕ) (p r : ℕ) : Type 0 where
  pub first : IsFitOf code Group (slice_index places)
  pub inside : (k : ℕ) → MeetsIn code Group k k → k < length places
  pub private : (k : ℕ) → CrossesIn code Group k → slice_index places k < p
  pub other : (k : ℕ) → MeetsIn code Group k k → (CrossesIn code Group k → ⊥) → slice_index places k < r
  pub private_reached : (p ≡ 0) ⊎ ((k : ℕ) × CrossesIn code Group k × (p ≡ slice_index places k + 1))
  pub other_reached : (r ≡ 0) ⊎ ((k : ℕ) × MeetsIn code Group k k × (CrossesIn code Group k → ⊥) × (r ≡ slice_index places k + 1))

abbrev pub IsFit : List Line → (ℕ → Type 0) → Fit → Type 0
IsFit code Group fit = IsFitBy code Group (places_in fit) (least_private fit) (least_all fit)
