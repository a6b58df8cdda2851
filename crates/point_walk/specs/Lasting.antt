-- Walks whose rows serve more private places.
use Rattle.std.specs.Prelude.{ℕ, ◌≡◌, ◌≤◌, List, true}
use Rattle.micro_isa.specs.declared.program.Line.{Line}
use Rattle.point_walk.specs.declared.walking.Route.{Route}
use Rattle.point_walk.specs.Walks.{IsWalk}

-- where it says so, the rows are those of each walk with more private places too, whatever the number of places in all
abbrev pub IsLasting : List Line → Route → Type 0
IsLasting code route = route.lasting ≡ true → (q r : ℕ) → route.plan.p ≤ q → IsWalk code q r (record { p = q; r = r; rows = route.plan.rows })
