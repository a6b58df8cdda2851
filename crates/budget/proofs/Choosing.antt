-- The best sizes where the number of shared registers is given.
use Rattle.std.proofs.Common.{◌≡◌, ℕ, ◌+◌, ◌-◌, ◌*◌, ◌≤◌, min, List, [], ◌∷◌, length, sum, refl, ap, ◌∙◌, arith}
use Rattle.std.specs.List.{All, AllZip}
use Rattle.std.proofs.lemmas.List.Elements.{All-head, All-tail}
use Rattle.std.proofs.lemmas.List.Sums.{sum_by-cons}
use Rattle.budget.specs.declared.CostTable.{CostTable}
use Rattle.budget.specs.declared.choice.Entry.{Entry}
use Rattle.budget.specs.declared.TheConstants.{SIZES, MOST_COST}
use Rattle.budget.specs.Costs.{IsCostTable, cell_at, cost_of, demands_of}
use Rattle.budget.specs.Choices.{entry_of, least_size, least_sum, sizes_of, stepped}
use Rattle.budget.proofs.Picking.{IsPicked, picked}

pub sum-cons : (n : ℕ) (ns : List ℕ) → sum (n ∷ ns) ≡ n + sum ns
sum-cons n ns = sum_by-cons (λ k. k) n ns

pub least_sum-cons : (table : CostTable) (tables : List CostTable) (shared : ℕ) → least_sum (table ∷ tables) shared ≡ least_size table shared + least_sum tables shared
least_sum-cons table tables shared = sum_by-cons (λ t. least_size t shared) table tables

-- what a table's context may take, with what those behind it do then
abbrev pub choices : CostTable → List CostTable → ℕ → ℕ → ℕ → Entry
choices table tables shared spare d = stepped table shared d (entry_of tables shared (spare - d))

pub entry_picked : (table : CostTable) (tables : List CostTable) (shared spare : ℕ)
    → IsPicked (choices table tables shared spare) (min (SIZES - 1) spare) (entry_of (table ∷ tables) shared spare)
entry_picked table tables shared spare = picked (choices table tables shared spare) (λ d. refl) (min (SIZES - 1) spare)

-- a budget that fits looks at cells of sizes that are not more than all
pub cell_small : (table : CostTable) (size shared : ℕ) → IsCostTable table → table.private ≤ size → table.all ≤ size + shared → cell_at table size shared ≤ MOST_COST
cell_small table size shared is own all =
    let o = is.order in
    is.small (min 7 (size - table.private)) (min 7 (size + shared - table.all)) (omega arith) (omega arith) (omega arith)

pub record IsSmallEntry (tables : List CostTable) (spare : ℕ) (e : Entry) : Type 0 where
  pub cost : e.cost ≤ length tables * MOST_COST
  pub extra : e.extra ≤ spare

pub entry_small : (tables : List CostTable) (shared spare : ℕ) → All IsCostTable tables → IsSmallEntry tables spare (entry_of tables shared spare)
entry_small [] shared spare all = record { cost = omega arith; extra = omega arith }
entry_small (table ∷ tables) shared spare all =
    let p = entry_picked table tables shared spare in
    let e = entry_of (table ∷ tables) shared spare in
    let behind = entry_small tables shared (spare - e.step) (All-tail IsCostTable table tables all) in
    let cell = cell_small table (least_size table shared + e.step) shared (All-head IsCostTable table tables all) (omega arith) (omega arith) in
    let cost = ap (λ (x : Entry). x.cost) p.is in
    let extra = ap (λ (x : Entry). x.extra) p.is in
    let within = p.within in
    record {
      cost = let c = behind.cost in omega arith;
      extra = let x = behind.extra in omega arith;
    }

pub entry_within : (tables : List CostTable) (shared spare : ℕ) → (entry_of tables shared spare).step ≤ spare
entry_within [] shared spare = omega arith
entry_within (table ∷ tables) shared spare = let w = (entry_picked table tables shared spare).within in omega arith

-- the sizes leave each context what it needs, and are as the entry tells
pub record Follows (tables : List CostTable) (shared : ℕ) (e : Entry) (sizes : List ℕ) : Type 0 where
  pub own : AllZip (λ demand size. demand.private ≤ size) (demands_of tables) sizes
  pub whole : AllZip (λ demand size. demand.all ≤ size + shared) (demands_of tables) sizes
  pub total : sum sizes ≡ least_sum tables shared + e.extra
  pub cost : e.cost ≡ cost_of tables sizes shared

pub sizes_follow : (tables : List CostTable) (shared spare : ℕ) → Follows tables shared (entry_of tables shared spare) (sizes_of tables shared spare)
sizes_follow [] shared spare = record { own = tt; whole = tt; total = refl; cost = refl }
sizes_follow (table ∷ tables) shared spare =
    let p = entry_picked table tables shared spare in
    let e = entry_of (table ∷ tables) shared spare in
    let behind = sizes_follow tables shared (spare - e.step) in
    let cost = ap (λ (x : Entry). x.cost) p.is in
    let extra = ap (λ (x : Entry). x.extra) p.is in
    record {
      own = (omega arith, behind.own);
      whole = (omega arith, behind.whole);
      total = rw (sum-cons, least_sum-cons) (let t = behind.total in omega arith);
      cost = cost ∙ ap (λ (n : ℕ). cell_at table (least_size table shared + e.step) shared + n) behind.cost;
    }
