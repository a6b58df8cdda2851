-- No sizes beside the same number of shared registers are preferred to those that are chosen.
use Rattle.std.proofs.Common.{◌≡◌, ℕ, ◌+◌, ◌-◌, ◌≤◌, min, List, [], ◌∷◌, sum, refl, sym, subst, inl, inr, arith}
use Rattle.std.specs.List.{AllZip}
use Rattle.std.proofs.lemmas.Bool.{cases_eq, cases_lt}
use Rattle.budget.specs.declared.CostTable.{CostTable}
use Rattle.budget.specs.declared.choice.Entry.{Entry}
use Rattle.budget.specs.declared.TheConstants.{SIZES}
use Rattle.budget.specs.Orders.{ByKey, IsNoGreater}
use Rattle.budget.specs.Costs.{cell_at, cost_of}
use Rattle.budget.specs.Choices.{entry_of, least_size, least_sum, sizes_of}
use Rattle.budget.proofs.Keys.{by_key_trans, by_key_weaker, by_key_moved, by_key_le}
use Rattle.budget.proofs.Choosing.{sum-cons, least_sum-cons, choices, entry_picked}

-- an entry with its sizes comes no later than others of this cost and so many extra registers
abbrev pub Beats : Entry → List ℕ → ℕ → ℕ → List ℕ → Type 0
Beats e sizes cost extra others = ByKey e.cost cost (ByKey e.extra extra (IsNoGreater sizes others))

abbrev pub HasLeast : List CostTable → ℕ → List ℕ → Type 0
HasLeast tables shared sizes = AllZip (λ table size. least_size table shared ≤ size) tables sizes

pub least_below : (tables : List CostTable) (shared : ℕ) (sizes : List ℕ) → HasLeast tables shared sizes → least_sum tables shared ≤ sum sizes
least_below [] shared [] least = omega arith
least_below [] shared (size ∷ sizes) least = absurd least
least_below (table ∷ tables) shared [] least = absurd least
least_below (table ∷ tables) shared (size ∷ sizes) least =
    let rest = least_below tables shared sizes least.1 in
    rw (least_sum-cons, sum-cons) (let here = least.0 in omega arith)

module _ (table : CostTable) (tables : List CostTable) (shared spare d extra : ℕ) (others : List ℕ) (steps : d ≤ min (SIZES - 1) spare) (within : d ≤ extra)
    (rest : Beats (entry_of tables shared (spare - d)) (sizes_of tables shared (spare - d)) (cost_of tables others shared) (extra - d) others) where
  abbrev pub chosen : Entry
  chosen = entry_of (table ∷ tables) shared spare

  lists : chosen.step ≤ d → IsNoGreater (sizes_of tables shared (spare - d)) others
      → IsNoGreater (sizes_of (table ∷ tables) shared spare) ((least_size table shared + d) ∷ others)
  lists le on = elim (cases_eq chosen.step d) [
    | inl same ↦ inr (omega arith, subst (λ n. IsNoGreater (sizes_of tables shared (spare - n)) others) (sym same) on)
    | inr less ↦ inl (omega arith)
  ]

  -- the first context takes d registers more than it must, with d among the choices
  pub beats_step : Beats chosen (sizes_of (table ∷ tables) shared spare) (cost_of (table ∷ tables) ((least_size table shared + d) ∷ others) shared) extra ((least_size table shared + d) ∷ others)
  beats_step =
      let p = entry_picked table tables shared spare in
      let cell = cell_at table (least_size table shared + d) shared in
      let moved = by_key_moved _ _ (choices table tables shared spare d).cost (cell + cost_of tables others shared) cell _ refl refl rest in
      by_key_trans _ _ _ _ _ _
      (λ pick_on rest_on. by_key_trans _ _ _ _ _ _ lists pick_on (by_key_moved _ _ (choices table tables shared spare d).extra extra d _ refl (omega arith) rest_on))
      (p.first d steps) moved

-- beyond the table's sizes a register more changes no cost
pub clipped_cell : (table : CostTable) (shared more : ℕ) → cell_at table (least_size table shared + (7 + more)) shared ≡ cell_at table (least_size table shared + 7) shared
clipped_cell table shared more =
    let own : min 7 (least_size table shared + (7 + more) - table.private) ≡ min 7 (least_size table shared + 7 - table.private) = omega arith in
    let all : min 7 (least_size table shared + (7 + more) + shared - table.all) ≡ min 7 (least_size table shared + 7 + shared - table.all) = omega arith in
    rw (own, all) refl

pub beats : (tables : List CostTable) (shared spare : ℕ) (sizes : List ℕ) (extra : ℕ) → HasLeast tables shared sizes
    → sum sizes ≡ least_sum tables shared + extra → extra ≤ spare
    → Beats (entry_of tables shared spare) (sizes_of tables shared spare) (cost_of tables sizes shared) extra sizes
beats [] shared spare [] extra least total within = inr (refl, let none : 0 ≡ extra = omega arith in inr (none, tt))
beats [] shared spare (size ∷ sizes) extra least total within = absurd least
beats (table ∷ tables) shared spare [] extra least total within = absurd least
beats (table ∷ tables) shared spare (size ∷ sizes) extra least total within =
    let low = least_below tables shared sizes least.1 in
    let total_size = sum-cons size sizes in
    let total_least = least_sum-cons table tables shared in
    let d = size - least_size table shared in
    let here = least.0 in
    let is_size : least_size table shared + d ≡ size = omega arith in
    elim (cases_lt 7 d) [
      | inl more ↦
          let rest = beats tables shared (spare - 7) sizes (extra - d) least.1 (omega arith) (omega arith) in
          let before = beats_step table tables shared spare 7 (7 + (extra - d)) sizes (omega arith) (omega arith) (let e : 7 + (extra - d) - 7 ≡ extra - d = omega arith in rw e rest) in
          let size_is : size ≡ least_size table shared + (7 + (d - 7)) = omega arith in
          let cell : cell_at table size shared ≡ cell_at table (least_size table shared + 7) shared = rw size_is (clipped_cell table shared (d - 7)) in
          rw cell (by_key_weaker _ _ _ _ (λ on. let le = by_key_le _ _ _ on in inl (omega arith)) before)
      | inr few ↦
          let rest = beats tables shared (spare - d) sizes (extra - d) least.1 (omega arith) (omega arith) in
          subst (λ n. Beats (entry_of (table ∷ tables) shared spare) (sizes_of (table ∷ tables) shared spare) (cost_of (table ∷ tables) (n ∷ sizes) shared) extra (n ∷ sizes)) is_size
          (beats_step table tables shared spare d extra sizes (omega arith) (omega arith) rest)
    ]
