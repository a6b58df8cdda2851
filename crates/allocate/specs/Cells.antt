-- The plan of a context for given numbers of places, and what it costs.
use Rattle.std.specs.Prelude.{ℕ, ◌≡◌, ◌+◌, ◌<◌, ◌≤◌, ◌⊎◌, List, Some, None}
use Rattle.micro_isa.specs.declared.program.Line.{Line}
use Rattle.pressure.specs.declared.pressure_of.Pressure.{Pressure}
use Rattle.pressure.specs.Pressures.{IsPressureOf}
use Rattle.plan.specs.declared.row.Plan.{Plan}
use Rattle.range_colour.specs.PlacedPlans.{IsWholeFit, IsRegionFit}
use Rattle.point_walk.specs.Walks.{IsWalk}
use Rattle.budget.specs.Costs.{clipped}
use Rattle.emitted.specs.Words.{glue_of}

-- the fit over the whole program has the plan, and it costs nothing
pub record ByWhole (code : List Line) (p r cost : ℕ) (plan : Plan) : Type 0 where
  pub fit : IsWholeFit code p r (Some plan)
  pub free : cost ≡ 0

-- that runs out, the fit over each region has the plan, and the walk has no less glue
pub record ByRegion (code : List Line) (p r cost : ℕ) (plan : Plan) : Type 0 where
  pub out : IsWholeFit code p r None
  pub fit : IsRegionFit code p r (Some plan)
  pub glue : cost ≡ glue_of code plan
  pub least : (walked : Plan) → IsWalk code p r walked → cost ≤ glue_of code walked

-- that runs out, the plan is the walk, and the fit over each region has more glue, or runs out too
pub record ByWalk (code : List Line) (p r cost : ℕ) (plan : Plan) : Type 0 where
  pub out : IsWholeFit code p r None
  pub walk : IsWalk code p r plan
  pub glue : cost ≡ glue_of code plan
  pub least : (fitted : Plan) → IsRegionFit code p r (Some fitted) → cost < glue_of code fitted

-- with p private places and r in all the code has this plan, which costs so much
abbrev pub IsCell : List Line → ℕ → ℕ → ℕ → Plan → Type 0
IsCell code p r cost plan = ByWhole code p r cost plan ⊎ (ByRegion code p r cost plan ⊎ ByWalk code p r cost plan)

-- the places that a context uses of those that it has: at most seven more of each kind than it needs
abbrev pub private_places : Pressure → ℕ → ℕ
private_places part size = part.private + clipped size part.private

abbrev pub all_places : Pressure → ℕ → ℕ → ℕ
all_places part size shared = part.all + clipped (size + shared) part.all

-- the plan of a context that has so many registers of its own beside the shared ones, and what it costs
pub record IsCellOf (code : List Line) (size shared cost : ℕ) (plan : Plan) : Type 0 where
  pub pressure : Pressure
  pub exact : IsPressureOf code pressure
  pub cell : IsCell code (private_places pressure size) (all_places pressure size shared) cost plan

-- the fit over the whole program serves a context that has so many registers
pub record FitsWhole (code : List Line) (size shared : ℕ) : Type 0 where
  pub pressure : Pressure
  pub exact : IsPressureOf code pressure
  pub plan : Plan
  pub fit : IsWholeFit code (private_places pressure size) (all_places pressure size shared) (Some plan)
