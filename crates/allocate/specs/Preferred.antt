-- The budget that is preferred among all that fit.
use Rattle.std.specs.Prelude.{ℕ, ◌≡◌, ◌+◌, List, [], ◌∷◌, map}
use Rattle.std.specs.List.{AllZip}
use Rattle.micro_isa.specs.declared.program.Program.{Program}
use Rattle.micro_isa.specs.declared.program.Bundle.{Bundle}
use Rattle.pressure.specs.declared.pressure_of.Pressure.{Pressure}
use Rattle.plan.specs.declared.row.Plan.{Plan}
use Rattle.budget.specs.declared.Budget.{Budget}
use Rattle.budget.specs.Fitting.{Demand, SizesFit}
use Rattle.budget.specs.Best.{IsNoLater}
use Rattle.allocate.specs.Cells.{IsCellOf, FitsWhole}

-- what the contexts need
abbrev pub demand_by : Pressure → Demand
demand_by part = record { private = part.private; all = part.all }

abbrev pub demands_by : List Pressure → List Demand
demands_by = map demand_by

-- each context has its plan for its own size beside the shared registers, and together they cost so much
abbrev pub HaveCells : List Program → List ℕ → ℕ → ℕ → List Plan → Type 0
HaveCells [] [] shared cost plans = (cost ≡ 0) × (plans ≡ [])
HaveCells [] (size ∷ sizes) shared cost plans = ⊥
HaveCells (program ∷ programs) [] shared cost plans = ⊥
HaveCells (program ∷ programs) (size ∷ sizes) shared cost plans =
    (own : ℕ) × (plan : Plan) × (rest : ℕ) × (others : List Plan)
    × IsCellOf program.code size shared own plan × HaveCells programs sizes shared rest others
    × (cost ≡ own + rest) × (plans ≡ plan ∷ others)

-- so much do the sizes cost
abbrev pub HasCost : List Program → List ℕ → ℕ → ℕ → Type 0
HasCost programs sizes shared cost = (plans : List Plan) × HaveCells programs sizes shared cost plans

-- the budget fits and tells its cost; each that fits has a cost, and none is preferred to this one
pub record IsPreferred (b : Bundle) (parts : List Pressure) (budget : Budget) : Type 0 where
  pub fits : SizesFit (demands_by parts) b.file budget.private budget.shared
  pub cost : HasCost b.programs budget.private budget.shared budget.cost
  pub first : (private : List ℕ) (shared : ℕ) → SizesFit (demands_by parts) b.file private shared
      → (cost : ℕ) × HasCost b.programs private shared cost × IsNoLater budget (record { private = private; shared = shared; cost = cost })

-- the fit over the whole program serves each context
abbrev pub AllFitWhole : List Program → List ℕ → ℕ → Type 0
AllFitWhole programs sizes shared = AllZip (λ program size. FitsWhole program.code size shared) programs sizes
