-- When sizes fit, and what contexts need.
use Rattle.std.proofs.Common.{◌≡◌, ℕ, ◌+◌, ◌-◌, ◌≤◌, min, List, [], ◌∷◌, length, sum, refl, arith}
use Rattle.std.specs.List.{AllZip, sum_by}
use Rattle.std.proofs.lemmas.List.Sums.{sum_by-cons}
use Rattle.budget.specs.declared.CostTable.{CostTable}
use Rattle.budget.specs.Fitting.{Demand, SizesFit, greatest_gap, need_of}
use Rattle.budget.specs.Costs.{cost_of, demand_of, demands_of}
use Rattle.budget.specs.Choices.{least_sum}
use Rattle.budget.proofs.Choosing.{sum-cons, least_sum-cons}
use Rattle.budget.proofs.Beating.{HasLeast}

abbrev pub Own : List CostTable → List ℕ → Type 0
Own tables sizes = AllZip (λ demand size. demand.private ≤ size) (demands_of tables) sizes

abbrev pub Whole : List CostTable → ℕ → List ℕ → Type 0
Whole tables shared sizes = AllZip (λ demand size. demand.all ≤ size + shared) (demands_of tables) sizes

private_sum-cons : (demand : Demand) (demands : List Demand) → sum_by (λ d. d.private) (demand ∷ demands) ≡ demand.private + sum_by (λ d. d.private) demands
private_sum-cons demand demands = sum_by-cons (λ (d : Demand). d.private) demand demands

pub own_long : (tables : List CostTable) (sizes : List ℕ) → Own tables sizes → length sizes ≡ length tables
own_long [] [] own = refl
own_long [] (size ∷ sizes) own = absurd own
own_long (table ∷ tables) [] own = absurd own
own_long (table ∷ tables) (size ∷ sizes) own = let rest = own_long tables sizes own.1 in omega arith

pub fits_least : (tables : List CostTable) (shared : ℕ) (sizes : List ℕ) → Own tables sizes → Whole tables shared sizes → HasLeast tables shared sizes
fits_least [] shared [] own whole = tt
fits_least [] shared (size ∷ sizes) own whole = absurd own
fits_least (table ∷ tables) shared [] own whole = absurd own
fits_least (table ∷ tables) shared (size ∷ sizes) own whole =
    let o = own.0 in let w = whole.0 in (omega arith, fits_least tables shared sizes own.1 whole.1)

-- with more shared registers than the greatest gap and what tables tell, as many serve as well
pub gap_serves : (tables : List CostTable) (gap : ℕ) (sizes : List ℕ) → greatest_gap (demands_of tables) ≤ gap → Own tables sizes → Whole tables (gap + 7) sizes
gap_serves [] gap [] le own = tt
gap_serves [] gap (size ∷ sizes) le own = absurd own
gap_serves (table ∷ tables) gap [] le own = absurd own
gap_serves (table ∷ tables) gap (size ∷ sizes) le own =
    let o = own.0 in (omega arith, gap_serves tables gap sizes (omega arith) own.1)

pub gap_costs : (tables : List CostTable) (gap shared : ℕ) (sizes : List ℕ) → greatest_gap (demands_of tables) ≤ gap → gap + 7 ≤ shared → Own tables sizes
    → cost_of tables sizes shared ≡ cost_of tables sizes (gap + 7)
gap_costs [] gap shared [] le more own = refl
gap_costs [] gap shared (size ∷ sizes) le more own = refl
gap_costs (table ∷ tables) gap shared [] le more own = refl
gap_costs (table ∷ tables) gap shared (size ∷ sizes) le more own =
    let o = own.0 in
    let clip : min 7 (size + shared - table.all) ≡ min 7 (size + (gap + 7) - table.all) = omega arith in
    let rest = gap_costs tables gap shared sizes (omega arith) more own.1 in
    rw (clip, rest) refl

-- what fits is at least the need
pub need_least : (tables : List CostTable) (shared : ℕ) (sizes : List ℕ) → Own tables sizes → Whole tables shared sizes → need_of (demands_of tables) ≤ sum sizes + shared
need_least [] shared [] own whole = omega arith
need_least [] shared (size ∷ sizes) own whole = absurd own
need_least (table ∷ tables) shared [] own whole = absurd own
need_least (table ∷ tables) shared (size ∷ sizes) own whole =
    let rest = need_least tables shared sizes own.1 whole.1 in
    let a = private_sum-cons (demand_of table) (demands_of tables) in
    let b = sum-cons size sizes in
    let low = own_sum tables sizes own.1 in
    let o = own.0 in let w = whole.0 in omega arith
  where
    own_sum : (tables : List CostTable) (sizes : List ℕ) → Own tables sizes → sum_by (λ d. d.private) (demands_of tables) ≤ sum sizes
    own_sum [] [] own = omega arith
    own_sum [] (size ∷ sizes) own = absurd own
    own_sum (table ∷ tables) [] own = absurd own
    own_sum (table ∷ tables) (size ∷ sizes) own =
        let rest = own_sum tables sizes own.1 in
        let a = private_sum-cons (demand_of table) (demands_of tables) in
        let b = sum-cons size sizes in
        let o = own.0 in omega arith

-- beside the greatest gap each context can do with its own registers
pub least_at_gap : (tables : List CostTable) (gap : ℕ) → greatest_gap (demands_of tables) ≤ gap → least_sum tables gap ≡ sum_by (λ demand. demand.private) (demands_of tables)
least_at_gap [] gap le = refl
least_at_gap (table ∷ tables) gap le =
    let rest = least_at_gap tables gap (omega arith) in
    let a = private_sum-cons (demand_of table) (demands_of tables) in
    let b = least_sum-cons table tables gap in
    omega arith

-- their own registers
abbrev pub own_sizes : List CostTable → List ℕ
own_sizes [] = []
own_sizes (table ∷ tables) = table.private ∷ own_sizes tables

own_fits : (tables : List CostTable) → Own tables (own_sizes tables)
own_fits [] = tt
own_fits (table ∷ tables) = (omega arith, own_fits tables)

gap_fits : (tables : List CostTable) (gap : ℕ) → greatest_gap (demands_of tables) ≤ gap → Whole tables gap (own_sizes tables)
gap_fits [] gap le = tt
gap_fits (table ∷ tables) gap le = (omega arith, gap_fits tables gap (omega arith))

own_total : (tables : List CostTable) → sum (own_sizes tables) ≡ sum_by (λ demand. demand.private) (demands_of tables)
own_total [] = refl
own_total (table ∷ tables) =
    let rest = own_total tables in
    let a = private_sum-cons (demand_of table) (demands_of tables) in
    let b = sum-cons table.private (own_sizes tables) in
    omega arith

-- the sum that the code has is the need
pub need_is : (tables : List CostTable) (gap : ℕ) → gap ≡ greatest_gap (demands_of tables) → least_sum tables gap + gap ≡ need_of (demands_of tables)
need_is tables gap is = let e = least_at_gap tables gap (omega arith) in omega arith

pub need_fits : (tables : List CostTable) (file : ℕ) → need_of (demands_of tables) ≤ file → SizesFit (demands_of tables) file (own_sizes tables) (greatest_gap (demands_of tables))
need_fits tables file le = record {
  own = own_fits tables;
  whole = gap_fits tables (greatest_gap (demands_of tables)) (omega arith);
  room = let t = own_total tables in omega arith;
}
