-- The budget that is preferred among all that fit.
use Rattle.std.specs.Prelude.{ℕ, ◌≡◌, ◌+◌, ◌<◌, List, sum}
use Rattle.budget.specs.declared.Budget.{Budget}
use Rattle.budget.specs.declared.BudgetFault.{BudgetFault}
use Rattle.budget.specs.declared.BudgetFault.TheVariants.{NoFit, NoMemory}
use Rattle.budget.specs.declared.CostTable.{CostTable}
use Rattle.budget.specs.Orders.{ByKey, IsNoGreater}
use Rattle.budget.specs.Fitting.{SizesFit, need_of}
use Rattle.budget.specs.Costs.{cost_of, demands_of}

-- all registers that a budget gives
abbrev pub total_of : Budget → ℕ
total_of budget = sum budget.private + budget.shared

-- preferred is the least cost, then the least total, then the most shared registers, then the least list of sizes
abbrev pub IsNoLater : Budget → Budget → Type 0
IsNoLater a b = ByKey a.cost b.cost (ByKey (total_of a) (total_of b) (ByKey b.shared a.shared (IsNoGreater a.private b.private)))

-- the budget fits, tells its cost, and no budget that fits is preferred to it
pub record IsBest (tables : List CostTable) (file : ℕ) (budget : Budget) : Type 0 where
  pub fits : SizesFit (demands_of tables) file budget.private budget.shared
  pub cost : budget.cost ≡ cost_of tables budget.private budget.shared
  pub first : (private : List ℕ) (shared : ℕ) → SizesFit (demands_of tables) file private shared
      → IsNoLater budget (record { private = private; shared = shared; cost = cost_of tables private shared })

-- some sizes fit
abbrev pub CanFit : List CostTable → ℕ → Type 0
CanFit tables file = (private : List ℕ) × (shared : ℕ) × SizesFit (demands_of tables) file private shared

-- a refusal tells the need, which is above the file, and the file
abbrev pub Refuses : List CostTable → ℕ → BudgetFault → Type 0
Refuses tables file (NoFit need size) = (need ≡ need_of (demands_of tables)) × (size ≡ file) × (file < need)
Refuses tables file NoMemory = Unit {0}
