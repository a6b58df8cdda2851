-- Rows of entries, as the code reads them.
use Rattle.std.proofs.Common.{◌≡◌, ℕ, add-one, ◌+◌, ◌-◌, ◌*◌, ◌<◌, ◌≤◌, min, List, [], ◌∷◌, length, drop, get_or, slice_index_or, refl, sym, subst, arith}
use Rattle.std.specs.List.{All}
use Rattle.std.proofs.lemmas.List.Elements.{All-head, All-tail}
use Rattle.budget.specs.declared.CostTable.{CostTable}
use Rattle.budget.specs.declared.choice.Entry.{Entry}
use Rattle.budget.specs.declared.TheConstants.{SIZES, MOST_COST}
use Rattle.budget.specs.Costs.{IsCostTable}
use Rattle.budget.specs.Choices.{IsRow, entry_of, nearer, pick, stepped}
use Rattle.budget.proofs.Choosing.{entry_small, choices}

-- what a read past a row's end would give
abbrev pub none : Entry
none = record { cost = 0; extra = 0; step = 0 }

-- what the first context may take
abbrev pub choices_at : List CostTable → ℕ → ℕ → ℕ → Entry
choices_at [] shared spare d = none
choices_at (table ∷ tables) shared spare d = choices table tables shared spare d

module _ (shared spare : ℕ) (behind : List Entry) where
  -- an entry behind the first context is small
  pub read_small : (tables : List CostTable) (at : ℕ) → All IsCostTable tables → 0 < length tables → IsRow (drop 1 tables) shared behind → at < length behind
      → ((slice_index_or behind at none).cost ≤ length tables * MOST_COST) × ((slice_index_or behind at none).extra ≤ at)
  read_small [] at all some row less = absurd (omega arith)
  read_small (table ∷ tables) at all some row less =
      let small = entry_small tables shared at (All-tail IsCostTable table tables all) in
      let read = row.each at none less in
      rw read (let c = small.cost in omega arith, small.extra)

  -- what the code steps to is one of the choices
  pub read_step : (tables : List CostTable) (table : CostTable) (d at : ℕ) → table ≡ get_or tables 0 table → 0 < length tables → IsRow (drop 1 tables) shared behind
      → at < length behind → at ≡ spare - d → stepped table shared d (slice_index_or behind at none) ≡ choices_at tables shared spare d
  read_step [] table d at is some row less same = absurd (omega arith)
  read_step (first ∷ tables) table d at is some row less same =
      let read = row.each at none less in
      let same_table : table ≡ first = is in
      rw (read, same_table, same) refl

pub first_table : (tables : List CostTable) (table : CostTable) → All IsCostTable tables → 0 < length tables → table ≡ get_or tables 0 table → IsCostTable table
first_table [] table all some is = absurd (omega arith)
first_table (first ∷ tables) table all some is = let same : table ≡ first = is in subst IsCostTable (sym same) (All-head IsCostTable first tables all)

pub picks_more : (tables : List CostTable) (shared spare d : ℕ) (e next : Entry) → e ≡ pick (choices_at tables shared spare) d → next ≡ choices_at tables shared spare (d + 1)
    → nearer e next ≡ pick (choices_at tables shared spare) (d + 1)
picks_more tables shared spare d e next is is_next = rw (is, is_next, add-one) refl

pub picks_all : (tables : List CostTable) (shared spare d : ℕ) → 0 < length tables → d ≡ min (SIZES - 1) spare → pick (choices_at tables shared spare) d ≡ entry_of tables shared spare
picks_all [] shared spare d some is = absurd (omega arith)
picks_all (table ∷ tables) shared spare d some is = rw is refl
