-- Plans in which registers keep their places from one instruction to the next.
use Rattle.std.specs.Prelude.{ℕ, ◌≡◌, List, Some, slice_get}
use Rattle.micro_isa.specs.declared.program.Line.{Line}
use Rattle.liveness.specs.Liveness.{LiveIn}
use Rattle.liveness.specs.Surviving.{WritesAt}
use Rattle.plan.specs.declared.row.PlanRow.{PlanRow}
use Rattle.plan.specs.declared.row.Plan.{Plan}
use Rattle.plan.specs.ValidPlans.{place_in}

-- on the way from i to j every register that is live there keeps its place; the written one has the write's
abbrev pub MovesNothing : List Line → Plan → ℕ → ℕ → Type 0
MovesNothing code plan i j = (row next : PlanRow) → slice_get plan.rows i ≡ Some row → slice_get plan.rows j ≡ Some next
    → (k : ℕ) → LiveIn code j k
    → (WritesAt code i k → row.write ≡ Some (place_in next.places k)) × ((WritesAt code i k → ⊥) → place_in row.places k ≡ place_in next.places k)
