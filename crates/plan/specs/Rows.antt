-- What a plan's rows say, and a plan with one more.
use Rattle.std.specs.Prelude.{ℕ, List, [], ◌∷◌, ◌++◌, Option, None, Some}
use Rattle.plan.specs.declared.row.Place.{Place}
use Rattle.plan.specs.declared.row.PlanRow.{PlanRow}
use Rattle.plan.specs.declared.row.Plan.{Plan}

-- the places of a row; none where there is no row
abbrev pub places_in : Option PlanRow → List Place
places_in None = []
places_in (Some row) = row.places

-- the write's place of a row, if there is a row and it has one
abbrev pub write_in : Option PlanRow → Option ℕ
write_in None = None
write_in (Some row) = row.write

-- the plan with a row more
abbrev pub with_row : Plan → PlanRow → Plan
with_row plan row = record { p = plan.p; r = plan.r; rows = plan.rows ++ row ∷ [] }
