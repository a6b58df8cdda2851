-- Which plans are valid for a program's code.
use Rattle.std.specs.Prelude.{ℕ, ◌≡◌, ◌≢◌, ◌<◌, ◌≤◌, ◌↔◌, ◌==◌, true, List, [], ◌∷◌, map, Some, is_some, nat_eq, length, slice_get, if◌then◌else◌}
use Rattle.std.specs.List.{Contains, IsDistinct}
use Rattle.micro_isa.specs.declared.limits.TheConstants.{MOST_FILE}
use Rattle.micro_isa.specs.declared.program.Line.{Line}
use Rattle.liveness.specs.Liveness.{LiveIn}
use Rattle.liveness.specs.Sets.{Lists}
use Rattle.liveness.specs.Surviving.{WritesAt, Stays, Crosses}
use Rattle.plan.specs.declared.row.Place.{Place}
use Rattle.plan.specs.declared.row.PlanRow.{PlanRow}
use Rattle.plan.specs.declared.row.Plan.{Plan}

-- the registers that a row lists, by their numbers
abbrev pub registers_of : List Place → List ℕ
registers_of = map (λ q. q.register.0)

-- the place of register k; 0 where the list has none
abbrev pub place_in : List Place → ℕ → ℕ
place_in [] k = 0
place_in (q ∷ qs) k = if q.register.0 == k then q.place else place_in qs k

-- row i is valid: it lists what is live in, has a place for what is written, and keeps apart and private what must be
pub record IsValidRow (code : List Line) (p r i : ℕ) (row : PlanRow) : Type 0 where
  pub lists : Lists (LiveIn code i) (registers_of row.places)
  pub writes : (is_some row.write ≡ true) ↔ ((k : ℕ) × WritesAt code i k)
  pub in_range : (q : Place) → Contains row.places q → q.place < r
  pub write_in_range : (w : ℕ) → row.write ≡ Some w → w < r
  pub apart : IsDistinct nat_eq (map (λ q. q.place) row.places)
  pub write_apart : (k w : ℕ) → Stays code i k → row.write ≡ Some w → place_in row.places k ≢ w
  pub private : (k : ℕ) → Crosses code i k → place_in row.places k < p

-- the plan is valid: its sizes are in order, and it has a valid row for each instruction
pub record IsValidPlan (code : List Line) (plan : Plan) : Type 0 where
  pub order : plan.p ≤ plan.r
  pub few : plan.r ≤ MOST_FILE
  pub one_each : length plan.rows ≡ length code
  pub rows : (i : ℕ) (row : PlanRow) → slice_get plan.rows i ≡ Some row → IsValidRow code plan.p plan.r i row
