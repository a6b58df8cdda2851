-- Plans by first fit.
use Rattle.std.specs.Prelude.{ℕ, ◌≡◌, ◌<◌, ◌↔◌, true, List, Option, Some, None, is_some, length, slice_get}
use Rattle.std.specs.List.{Contains}
use Rattle.micro_isa.specs.declared.program.Line.{Line}
use Rattle.liveness.specs.Liveness.{LiveIn}
use Rattle.liveness.specs.Sets.{Lists}
use Rattle.liveness.specs.Surviving.{WritesAt}
use Rattle.pressure.specs.Regions.{Connected}
use Rattle.plan.specs.declared.row.Place.{Place}
use Rattle.plan.specs.declared.row.PlanRow.{PlanRow}
use Rattle.plan.specs.declared.row.Plan.{Plan}
use Rattle.plan.specs.ValidPlans.{registers_of}
pub use Rattle.plan.specs.Moving.{MovesNothing}
use Rattle.range_colour.specs.FirstFits.{IsFirstFit, FitsIn, RunsOut}
use Rattle.range_colour.specs.Groups.{Every, MeetsIn, CrossesIn}

-- the row of instruction i lists what is live in there, and each register has the place that f gives it, the written one too
pub record IsPlacedRow (code : List Line) (i : ℕ) (f : ℕ → ℕ) (row : PlanRow) : Type 0 where
  pub lists : Lists (LiveIn code i) (registers_of row.places)
  pub places : (q : Place) → Contains row.places q → q.place ≡ f q.register.0
  pub writes : (is_some row.write ≡ true) ↔ ((k : ℕ) × WritesAt code i k)
  pub written : (k w : ℕ) → WritesAt code i k → row.write ≡ Some w → w ≡ f k

-- the row of each instruction i has the places that are given for i
pub record AreRowsPlaced (code : List Line) (at : ℕ → ℕ → ℕ) (rows : List PlanRow) : Type 0 where
  pub one_each : length rows ≡ length code
  pub each : (i : ℕ) (row : PlanRow) → slice_get rows i ≡ Some row → IsPlacedRow code i (at i) row

-- the plan has these sizes, and such rows
pub record IsPlacedBy (code : List Line) (p r : ℕ) (at : ℕ → ℕ → ℕ) (plan : Plan) : Type 0 where
  pub private : plan.p ≡ p
  pub all : plan.r ≡ r
  pub rows : AreRowsPlaced code at plan.rows

-- first fit over a group of instructions
abbrev pub IsFitOf : List Line → (ℕ → Type 0) → (ℕ → ℕ) → Type 0
IsFitOf code Group f = IsFirstFit (MeetsIn code Group) (CrossesIn code Group) f

abbrev pub Fits : List Line → (ℕ → Type 0) → (ℕ → ℕ) → ℕ → ℕ → Type 0
Fits code Group f p r = FitsIn (MeetsIn code Group) (CrossesIn code Group) f p r

abbrev pub DoesNotFit : List Line → (ℕ → Type 0) → (ℕ → ℕ) → ℕ → ℕ → Type 0
DoesNotFit code Group f p r = RunsOut (MeetsIn code Group) (CrossesIn code Group) f p r

-- one fit over all instructions gives every row its places, or runs out
abbrev pub IsWholeFit : List Line → ℕ → ℕ → Option Plan → Type 0
IsWholeFit code p r None = (f : ℕ → ℕ) × IsFitOf code Every f × DoesNotFit code Every f p r
IsWholeFit code p r (Some plan) = (f : ℕ → ℕ) × IsFitOf code Every f × Fits code Every f p r × IsPlacedBy code p r (λ i. f) plan

-- for each instruction a fit over its region
abbrev pub AreRegionFits : List Line → (ℕ → ℕ → ℕ) → Type 0
AreRegionFits code at = (i : ℕ) → i < length code → IsFitOf code (Connected code i) (at i)

-- the fit over an instruction's region gives its row the places, or that of some region runs out
abbrev pub IsRegionFit : List Line → ℕ → ℕ → Option Plan → Type 0
IsRegionFit code p r None =
    (at : ℕ → ℕ → ℕ) × AreRegionFits code at × ((i : ℕ) × (i < length code) × DoesNotFit code (Connected code i) (at i) p r)
IsRegionFit code p r (Some plan) =
    (at : ℕ → ℕ → ℕ) × AreRegionFits code at × ((i : ℕ) → i < length code → Fits code (Connected code i) (at i) p r) × IsPlacedBy code p r at plan
