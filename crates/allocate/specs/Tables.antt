-- What is known while cells are computed.
use Rattle.std.specs.Prelude.{ℕ, ◌≡◌, ◌+◌, ◌*◌, ◌<◌, ◌≤◌, List, Option, Some, None, IfSome, true, length, min, slice_get, slice_index}
use Rattle.std.specs.List.{AllZip}
use Rattle.micro_isa.specs.declared.program.Line.{Line}
use Rattle.micro_isa.specs.declared.program.Program.{Program}
use Rattle.pressure.specs.declared.pressure_of.Pressure.{Pressure}
use Rattle.pressure.specs.Pressures.{IsPressureOf}
use Rattle.plan.specs.declared.row.Plan.{Plan}
use Rattle.plan.specs.ValidPlans.{IsValidPlan}
use Rattle.range_colour.specs.Fits.{IsFit}
use Rattle.range_colour.specs.Groups.{Every}
use Rattle.range_colour.specs.PlacedPlans.{IsRegionFit}
use Rattle.range_colour.specs.Regional.{fits_test}
use Rattle.point_walk.specs.Walks.{IsWalk}
use Rattle.point_walk.specs.Lasting.{IsLasting}
use Rattle.budget.specs.declared.CostTable.{CostTable}
use Rattle.budget.specs.declared.TheConstants.{SIZES, MOST_COST}
use Rattle.budget.specs.Costs.{IsCostTable, demands_of}
use Rattle.budget.specs.Fitting.{need_of}
use Rattle.emit.specs.Sized.{with_places}
use Rattle.emitted.specs.Words.{glue_of}
use Rattle.allocate.specs.declared.cell.Planned.{Planned}
use Rattle.allocate.specs.declared.kept.Kept.{Kept}
use Rattle.allocate.specs.declared.kept.Kept.TheVariants.{Free, Fitted}
use Rattle.allocate.specs.declared.priced.PricedWalk.{PricedWalk}
use Rattle.allocate.specs.declared.region_costs.RegionCosts.{RegionCosts}
use Rattle.allocate.specs.declared.region_costs.RegionCosts.TheVariants.{Unknown, Above, RunOut, Exact}
use Rattle.allocate.specs.declared.allocation.AllocFault.{AllocFault}
use Rattle.allocate.specs.declared.allocation.AllocFault.TheVariants.{NoFit, NoMemory}
use Rattle.allocate.specs.Cells.{IsCell, IsCellOf}
use Rattle.allocate.specs.Fits.{AreFitsOf}

-- some plan costs so much with these numbers of places
abbrev pub Costs : List Line → ℕ → ℕ → ℕ → Type 0
Costs code p r cost = (plan : Plan) × IsCell code p r cost plan

-- the plan is that of the cell
abbrev pub IsCellPlan : List Line → ℕ → ℕ → Plan → Type 0
IsCellPlan code p r plan = (cost : ℕ) × IsCell code p r cost plan

-- the fit over each region has a plan, which costs so much
abbrev pub IsRegionCost : List Line → ℕ → ℕ → ℕ → Type 0
IsRegionCost code p r cost = (plan : Plan) × IsRegionFit code p r (Some plan) × (cost ≡ glue_of code plan)

-- what is known of the plans by the fits over the regions tells them from a walk that costs so much
abbrev pub IsAbove : RegionCosts → ℕ → Type 0
IsAbove Unknown walked = ⊥
IsAbove (Above words) walked = walked ≤ words
IsAbove RunOut walked = Unit {0}
IsAbove (Exact costs) walked = Unit {0}

-- from walks that cost so much
abbrev pub AreAbove : RegionCosts → List ℕ → Type 0
AreAbove costs walked = (j : ℕ) → j < SIZES → IsAbove costs (slice_index walked j)

-- the lesser of what a plan by fits costs, if there is one, and what the walk costs
abbrev pub lesser_cost : Option ℕ → ℕ → ℕ
lesser_cost None walked = walked
lesser_cost (Some cost) walked = min cost walked

-- the walk costs so much
abbrev pub IsWalkCost : List Line → ℕ → ℕ → ℕ → Type 0
IsWalkCost code p r cost = (plan : Plan) × IsWalk code p r plan × (cost ≡ glue_of code plan)

-- what the walk costs with p private places and from + j in all, for each j
abbrev pub AreWalkCosts : List Line → ℕ → ℕ → List ℕ → Type 0
AreWalkCosts code p from costs = (j : ℕ) → j < SIZES → IsWalkCost code p (from + j) (slice_index costs j)

-- no cost is too great for a table
abbrev pub AreSmall : List ℕ → Type 0
AreSmall costs = (j : ℕ) → slice_index costs j ≤ MOST_COST

-- the rows of the plan are those of the walk with p private places
abbrev pub HasRows : List Line → ℕ → Plan → Type 0
HasRows code p plan = (r : ℕ) → IsWalk code p r (record { p = p; r = r; rows = plan.rows })

-- a walk, and its glue with `from` places in all, with one more, and so on
pub record IsPriced (code : List Line) (from : ℕ) (walk : PricedWalk) : Type 0 where
  pub rows : HasRows code walk.route.plan.p walk.route.plan
  pub lasting : IsLasting code walk.route
  pub costs : (j : ℕ) → j < SIZES → slice_index walk.costs j ≡ glue_of code (with_places walk.route.plan (from + j))
  pub small : AreSmall walk.costs

-- the walks with `private` private places and more cost nothing
abbrev pub IsFreeFrom : List Line → ℕ → ℕ → Type 0
IsFreeFrom code private from = (p j : ℕ) → private ≤ p → j < SIZES → IsWalkCost code p (from + j) 0

-- the walk, valid, with its glue
pub record IsWalkPlanned (code : List Line) (p r : ℕ) (found : Planned) : Type 0 where
  pub walk : IsWalk code p r found.plan
  pub cost : found.cost ≡ glue_of code found.plan
  pub valid : IsValidPlan code found.plan

-- the fit over the whole program serves the pressures, or the fits are those of the program
abbrev pub IsKeptBy : List Line → Pressure → Kept → Type 0
IsKeptBy code part (Free fit) = IsFit code Every fit × (fits_test fit part.private part.all ≡ true)
IsKeptBy code part (Fitted fits) = AreFitsOf code fits

-- the fits of a context that were kept
pub record IsKept (code : List Line) (kept : Kept) : Type 0 where
  pub pressure : Pressure
  pub exact : IsPressureOf code pressure
  pub is : IsKeptBy code pressure kept

-- the walk of a context that was kept, if one was
pub record IsWalkKept (code : List Line) (walk : Option PricedWalk) : Type 0 where
  pub pressure : Pressure
  pub exact : IsPressureOf code pressure
  pub is : IfSome walk (IsPriced code pressure.all)

abbrev pub AreKept : List Program → List Kept → Type 0
AreKept = AllZip (λ program kept. IsKept program.code kept)

abbrev pub AreWalksKept : List Program → List (Option PricedWalk) → Type 0
AreWalksKept = AllZip (λ program walk. IsWalkKept program.code walk)

-- what cells cost with p private places and part.all + j in all, as far as there are so many
abbrev pub AreRowCosts : List Line → Pressure → ℕ → ℕ → List ℕ → Type 0
AreRowCosts code part p most costs = (j : ℕ) → j < SIZES → p ≤ part.all + j → part.all + j ≤ most → Costs code p (part.all + j) (slice_index costs j)

-- the table of a context has the costs of all cells at which a budget can look that leaves so many registers to spare
pub record IsTabled (spare : ℕ) (code : List Line) (table : CostTable) : Type 0 where
  pub pressure : Pressure
  pub exact : IsPressureOf code pressure
  pub private : table.private ≡ pressure.private
  pub all : table.all ≡ pressure.all
  pub is : IsCostTable table
  pub cells : (i j : ℕ) → i < SIZES → j < SIZES → pressure.private + i ≤ pressure.all + j → pressure.all + j ≤ pressure.private + spare
      → Costs code (pressure.private + i) (pressure.all + j) (slice_index table.cells (i * SIZES + j))

-- the first rows of cells, of eight costs each
pub record AreRows (code : List Line) (part : Pressure) (most n : ℕ) (cells : List ℕ) : Type 0 where
  pub long : length cells ≡ n * SIZES
  pub small : AreSmall cells
  pub rows : (i j : ℕ) → i < n → j < SIZES → part.private + i ≤ part.all + j → part.all + j ≤ most
      → Costs code (part.private + i) (part.all + j) (slice_index cells (i * SIZES + j))

-- the plan is one of the context of this number, for its size beside the shared registers
pub record IsChosenAt (programs : List Program) (sizes : List ℕ) (shared c : ℕ) (plan : Plan) : Type 0 where
  pub is : (program : Program) → slice_get programs c ≡ Some program
      → ((cost : ℕ) × IsCellOf program.code (slice_index sizes c) shared cost plan) × IsValidPlan program.code plan

-- such plans, one for each of the first contexts
pub record AreChosen (programs : List Program) (sizes : List ℕ) (shared n : ℕ) (plans : List Plan) : Type 0 where
  pub one_each : length plans ≡ n
  pub each : (c : ℕ) (plan : Plan) → slice_get plans c ≡ Some plan → IsChosenAt programs sizes shared c plan

-- a refusal tells what the tables need, which is above the file
abbrev pub Refused : List CostTable → ℕ → AllocFault → Type 0
Refused tables file (NoFit need size) = (need ≡ need_of (demands_of tables)) × (size ≡ file) × (file < need)
Refused tables file NoMemory = Unit {0}
