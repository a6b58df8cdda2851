-- Plans whose rows stand one after another in one list.
use Rattle.std.specs.Prelude.{ℕ, ◌-◌, ◌≤◌, List, [], ◌∷◌, take, drop, length, ⊤}
use Rattle.plan.specs.declared.row.Place.{Place}
use Rattle.plan.specs.declared.row.PlanRow.{PlanRow}
use Rattle.plan.specs.declared.row.Plan.{Plan}
use Rattle.plan.specs.declared.flat.FlatRow.{FlatRow}
use Rattle.plan.specs.declared.flat.FlatPlan.TheInside.{Inside}

-- where the entries of the first of these rows begin; the end where there are no rows
abbrev pub first_start : List FlatRow → ℕ → ℕ
first_start [] end = end
first_start (row ∷ rows) end = row.start

-- the rows, each with its own of the entries
abbrev pub rows_of : List Place → List FlatRow → List PlanRow
rows_of entries [] = []
rows_of entries (row ∷ rows) =
    record { places = take (first_start rows (length entries) - row.start) (drop row.start entries); write = row.write } ∷ rows_of entries rows

-- no row begins behind where the next one does, nor behind the end
abbrev pub AreOrdered : List FlatRow → ℕ → Type 0
AreOrdered [] end = ⊤
AreOrdered (row ∷ rows) end = (row.start ≤ first_start rows end) × AreOrdered rows end

-- the plan of these lists
abbrev pub plan_of : Inside → Plan
plan_of flat = record { p = flat.p; r = flat.r; rows = rows_of flat.entries.items flat.rows.items }

-- each row begins where it may
abbrev pub IsInOrder : Inside → Type 0
IsInOrder flat = AreOrdered flat.rows.items (length flat.entries.items)
