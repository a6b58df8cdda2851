-- What sizes cost, by tables.
use Rattle.std.specs.Prelude.{ℕ, ◌≡◌, ◌+◌, ◌-◌, ◌*◌, ◌<◌, ◌≤◌, min, map, List, [], ◌∷◌, length, slice_index}
use Rattle.budget.specs.declared.CostTable.{CostTable}
use Rattle.budget.specs.declared.TheConstants.{SIZES, MOST_COST}
use Rattle.micro_isa.specs.declared.limits.TheConstants.{MOST_FILE}
use Rattle.budget.specs.Fitting.{Demand}

-- a table with a cost for each pair of sizes, small where the context's own are not more than all
pub record IsCostTable (table : CostTable) : Type 0 where
  pub order : table.private ≤ table.all
  pub few : table.all ≤ MOST_FILE
  pub whole : length table.cells ≡ SIZES * SIZES
  pub small : (i j : ℕ) → i < SIZES → j < SIZES → table.private + i ≤ table.all + j → slice_index table.cells (i * SIZES + j) ≤ MOST_COST

-- how far a size is above the least one, as far as tables go
abbrev pub clipped : ℕ → ℕ → ℕ
clipped size least = min (SIZES - 1) (size - least)

-- what it costs a context to have so many registers of its own beside the shared ones
abbrev pub cell_at : CostTable → ℕ → ℕ → ℕ
cell_at table size shared = slice_index table.cells (clipped size table.private * SIZES + clipped (size + shared) table.all)

-- what it costs all contexts
abbrev pub cost_of : List CostTable → List ℕ → ℕ → ℕ
cost_of [] sizes shared = 0
cost_of (table ∷ tables) [] shared = 0
cost_of (table ∷ tables) (size ∷ sizes) shared = cell_at table size shared + cost_of tables sizes shared

abbrev pub demand_of : CostTable → Demand
demand_of table = record { private = table.private; all = table.all }

-- what the contexts with these tables need
abbrev pub demands_of : List CostTable → List Demand
demands_of tables = map demand_of tables
