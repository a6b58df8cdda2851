-- How the best sizes are found where the number of shared registers is given: context by context.
use Rattle.std.specs.Prelude.{ℕ, zero, suc, ◌≡◌, ◌==◌, ◌+◌, ◌-◌, ◌<◌, ◌≤◌, ◌&&◌, ◌||◌, nat_lt, if◌then◌else◌, min, max, List, [], ◌∷◌, length, slice_index_or}
use Rattle.std.specs.List.{sum_by}
use Rattle.budget.specs.declared.CostTable.{CostTable}
use Rattle.budget.specs.declared.choice.Entry.{Entry}
use Rattle.budget.specs.declared.sharing.Mark.{Mark}
use Rattle.budget.specs.declared.TheConstants.{SIZES}
use Rattle.budget.specs.Orders.{ByKey}
use Rattle.budget.specs.Costs.{cell_at}

-- the fewest registers of its own that a context can do with
abbrev pub least_size : CostTable → ℕ → ℕ
least_size table shared = max table.private (table.all - shared)

abbrev pub least_sum : List CostTable → ℕ → ℕ
least_sum tables shared = sum_by (λ table. least_size table shared) tables

-- the context takes d registers more than it must, and those behind it do as told
abbrev pub stepped : CostTable → ℕ → ℕ → Entry → Entry
stepped table shared d behind = record { cost = cell_at table (least_size table shared + d) shared + behind.cost; extra = d + behind.extra; step = d }

-- the second where it costs less, or costs the same with fewer registers; else the first
abbrev pub nearer : Entry → Entry → Entry
nearer a b = if (nat_lt b.cost a.cost || (b.cost == a.cost && nat_lt b.extra a.extra)) then b else a

-- the nearest of the first ones, and of those that are alike the first
abbrev pub pick : (ℕ → Entry) → ℕ → Entry
pick f zero = f 0
pick f (suc n) = nearer (pick f n) (f (suc n))

-- the best of the contexts with so many registers to spare
abbrev pub entry_of : List CostTable → ℕ → ℕ → Entry
entry_of [] shared spare = record { cost = 0; extra = 0; step = 0 }
entry_of (table ∷ tables) shared spare = pick (λ d. stepped table shared d (entry_of tables shared (spare - d))) (min (SIZES - 1) spare)

-- the sizes by which they do so
abbrev pub sizes_of : List CostTable → ℕ → ℕ → List ℕ
sizes_of [] shared spare = []
sizes_of (table ∷ tables) shared spare =
    let d = (entry_of (table ∷ tables) shared spare).step in
    (least_size table shared + d) ∷ sizes_of tables shared (spare - d)

-- the best for each number of registers to spare
pub record IsRow (tables : List CostTable) (shared : ℕ) (row : List Entry) : Type 0 where
  pub each : (spare : ℕ) (e : Entry) → spare < length row → slice_index_or row spare e ≡ entry_of tables shared spare

-- so many shared registers leave each context at least its least size
abbrev pub IsOpen : List CostTable → ℕ → ℕ → Type 0
IsOpen tables file shared = least_sum tables shared + shared ≤ file

abbrev pub spare_of : List CostTable → ℕ → ℕ → ℕ
spare_of tables file shared = file - (least_sum tables shared + shared)

-- what the best sizes beside so many shared registers cost, and how many registers they are in all
abbrev pub mark_of : List CostTable → ℕ → ℕ → Mark
mark_of tables file shared =
    let e = entry_of tables shared (spare_of tables file shared) in
    record { cost = e.cost; total = least_sum tables shared + shared + e.extra; shared = shared }

-- the preference as far as marks tell it
abbrev pub IsMarkNoLater : Mark → Mark → Type 0
IsMarkNoLater a b = ByKey a.cost b.cost (ByKey a.total b.total (b.shared ≤ a.shared))

-- the best among all numbers of shared registers below n
pub record IsBestBelow (tables : List CostTable) (file n : ℕ) (mark : Mark) : Type 0 where
  pub open_to : IsOpen tables file mark.shared
  pub is : mark ≡ mark_of tables file mark.shared
  pub first : (shared : ℕ) → shared < n → IsOpen tables file shared → IsMarkNoLater mark (mark_of tables file shared)
