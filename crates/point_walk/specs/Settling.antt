-- Walks in which no register moves where an instruction falls through to the next.
use Rattle.std.specs.Prelude.{ℕ, ◌≡◌, ◌+◌, List, Some, true, slice_get}
use Rattle.std.specs.List.{Contains}
use Rattle.micro_isa.specs.declared.program.Line.{Line}
use Rattle.plan.specs.declared.row.Place.{Place}
use Rattle.plan.specs.declared.row.Plan.{Plan}
use Rattle.plan.specs.Moving.{MovesNothing}
use Rattle.point_walk.specs.declared.walking.Route.{Route}
use Rattle.point_walk.specs.Walks.{Table, place_at, falls_in}

-- each register of the list has the place that it had before
pub record AreKept (old table : Table) (ks : List ℕ) : Type 0 where
  pub kept : (k : ℕ) → Contains ks k → (x : ℕ) × (place_at table k ≡ Some x) × (place_at old k ≡ Some x)

-- each register of the row had its place before
pub record HadPlaces (old : Table) (places : List Place) : Type 0 where
  pub had : (q : Place) → Contains places q → place_at old q.register.0 ≡ Some q.place

-- no register moves where an instruction falls through to the next
abbrev pub FallsStill : List Line → Plan → Type 0
FallsStill code plan = (i : ℕ) → falls_in i (slice_get code i) ≡ true → MovesNothing code plan i (i + 1)

-- where it says so, no register moves on a fall
abbrev pub IsSettled : List Line → Route → Type 0
IsSettled code route = route.settled ≡ true → FallsStill code route.plan
