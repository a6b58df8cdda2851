-- Tables of costs tell what budgets cost, so the best one by tables is the preferred one.
use Rattle.std.proofs.Common.{◌≡◌, ℕ, zero, suc, ◌+◌, ◌-◌, ◌*◌, ◌<◌, ◌≤◌, max, List, [], ◌∷◌, map, length, sum, get_or, refl, sym, ap, subst, ◌∙◌, arith}
use Rattle.std.specs.Prelude.{slice_index}
use Rattle.std.specs.List.{All, AllZip, sum_by}
use Rattle.std.proofs.lemmas.List.Sums.{sum_by-cons}
use Rattle.micro_isa.specs.declared.program.Line.{Line}
use Rattle.micro_isa.specs.declared.program.Program.{Program}
use Rattle.micro_isa.specs.declared.program.Bundle.{Bundle}
use Rattle.pressure.specs.declared.pressure_of.Pressure.{Pressure}
use Rattle.pressure.specs.Pressures.{greatest, need_of}
use Rattle.plan.specs.declared.row.Plan.{Plan}
use Rattle.budget.specs.declared.Budget.{Budget}
use Rattle.budget.specs.declared.CostTable.{CostTable}
use Rattle.budget.specs.declared.TheConstants.{SIZES}
use Rattle.budget.specs.Best.{IsBest}
use Rattle.budget.specs.Costs.{IsCostTable, cell_at, clipped, cost_of, demand_of, demands_of}
use Rattle.budget.specs.Fitting.{Demand, SizesFit, greatest_gap, need_of as demands_need}
use Rattle.budget.proofs.Choosing.{sum-cons}
use Rattle.allocate.specs.Cells.{IsCell, IsCellOf, all_places, private_places}
use Rattle.allocate.specs.Needs.{ArePressures}
use Rattle.allocate.specs.Preferred.{HasCost, IsPreferred, demand_by, demands_by}
use Rattle.allocate.specs.Tables.{IsTabled}
use Rattle.pressure.proofs.Unique.{pressure_once}

abbrev pub AreTabled : ℕ → List Program → List CostTable → Type 0
AreTabled spare = AllZip (λ program table. IsTabled spare program.code table)

-- the tables ask for what the pressures are
pub demands_same : (spare : ℕ) (programs : List Program) (parts : List Pressure) (tables : List CostTable) → ArePressures programs parts → AreTabled spare programs tables
    → demands_of tables ≡ demands_by parts
demands_same spare [] [] [] pressures tabled = refl
demands_same spare [] (part ∷ parts) tables pressures tabled = absurd pressures
demands_same spare [] [] (table ∷ tables) pressures tabled = absurd tabled
demands_same spare (program ∷ programs) [] tables pressures tabled = absurd pressures
demands_same spare (program ∷ programs) (part ∷ parts) [] pressures tabled = absurd tabled
demands_same spare (program ∷ programs) (part ∷ parts) (table ∷ tables) pressures tabled =
    let same = pressure_once program.code tabled.0.pressure part tabled.0.exact pressures.0 in
    let here : demand_of table ≡ demand_by part = λ i. record { private = (tabled.0.private ∙ ap (λ (q : Pressure). q.private) same) i; all = (tabled.0.all ∙ ap (λ (q : Pressure). q.all) same) i } in
    λ i. here i ∷ demands_same spare programs parts tables pressures.1 tabled.1 i

gap_same : (parts : List Pressure) → greatest_gap (demands_by parts) ≡ greatest (map (λ part. part.all - part.private) parts)
gap_same [] = refl
gap_same (part ∷ parts) = ap (λ n. max (part.all - part.private) n) (gap_same parts)

own_same : (parts : List Pressure) → sum_by (λ demand. demand.private) (demands_by parts) ≡ sum_by (λ part. part.private) parts
own_same [] = refl
own_same (part ∷ parts) = sum_by-cons (λ (d : Demand). d.private) (demand_by part) (demands_by parts) ∙ ap (λ n. part.private + n) (own_same parts) ∙ sym (sum_by-cons (λ (q : Pressure). q.private) part parts)

-- both needs are one number
pub need_same : (parts : List Pressure) → demands_need (demands_by parts) ≡ need_of parts
need_same parts = λ i. own_same parts i + gap_same parts i

pub are_cost_tables : (spare : ℕ) (programs : List Program) (tables : List CostTable) → AreTabled spare programs tables → All IsCostTable tables
are_cost_tables spare programs tables tabled c d less = at programs tables c tabled less
  where
    at : (programs : List Program) (tables : List CostTable) (c : ℕ) → AreTabled spare programs tables → c < length tables → IsCostTable (get_or tables c d)
    at programs [] c tabled less = absurd (omega arith)
    at [] (table ∷ tables) c tabled less = absurd tabled
    at (program ∷ programs) (table ∷ tables) zero tabled less = tabled.0.is
    at (program ∷ programs) (table ∷ tables) (suc c) tabled less = at programs tables c tabled.1 (omega arith)

-- no budget that fits looks past what is left beside the contexts' own registers
abbrev Within : ℕ → ℕ → List CostTable → List ℕ → Type 0
Within spare shared = AllZip (λ table size. size + shared ≤ table.private + spare)

abbrev Own : List CostTable → List ℕ → Type 0
Own tables sizes = AllZip (λ demand size. demand.private ≤ size) (demands_of tables) sizes

abbrev Whole : ℕ → List CostTable → List ℕ → Type 0
Whole shared tables sizes = AllZip (λ demand size. demand.all ≤ size + shared) (demands_of tables) sizes

own_sum : (tables : List CostTable) (sizes : List ℕ) → Own tables sizes → sum_by (λ demand. demand.private) (demands_of tables) ≤ sum sizes
own_sum [] [] own = omega arith
own_sum [] (size ∷ sizes) own = absurd own
own_sum (table ∷ tables) [] own = absurd own
own_sum (table ∷ tables) (size ∷ sizes) own =
    omega (arith, own_sum tables sizes own.1, sum_by-cons (λ (d : Demand). d.private) (demand_of table) (demands_of tables), sum-cons size sizes, own.0)

within : (spare shared : ℕ) (tables : List CostTable) (sizes : List ℕ) → Own tables sizes → sum sizes + shared ≤ sum_by (λ demand. demand.private) (demands_of tables) + spare
    → Within spare shared tables sizes
within spare shared [] [] own room = tt
within spare shared [] (size ∷ sizes) own room = absurd own
within spare shared (table ∷ tables) [] own room = absurd own
within spare shared (table ∷ tables) (size ∷ sizes) own room =
    let a = sum_by-cons (λ (d : Demand). d.private) (demand_of table) (demands_of tables) in
    let b = sum-cons size sizes in
    let low = own_sum tables sizes own.1 in
    let here = own.0 in
    (omega arith, within spare shared tables sizes own.1 (omega arith))

-- the cell at which a context looks
cell_there : (spare shared size : ℕ) (code : List Line) (table : CostTable) → IsTabled spare code table → table.private ≤ size → table.all ≤ size + shared → size + shared ≤ table.private + spare
    → (plan : Plan) × IsCellOf code size shared (cell_at table size shared) plan
cell_there spare shared size code table tabled own whole reach =
    let part = tabled.pressure in
    let is_private = tabled.private in
    let is_all = tabled.all in
    let order = tabled.is.order in
    let i = clipped size part.private in
    let j = clipped (size + shared) part.all in
    let found = tabled.cells i j (omega arith) (omega arith) (omega arith) (omega arith) in
    let at : slice_index table.cells (i * SIZES + j) ≡ cell_at table size shared = λ k. slice_index table.cells (clipped size (sym is_private k) * SIZES + clipped (size + shared) (sym is_all k)) in
    (found.0, record { pressure = part; exact = tabled.exact; cell = subst (λ n. IsCell code (private_places part size) (all_places part size shared) n found.0) at found.1 })

pub have_cost : (spare shared : ℕ) (programs : List Program) (tables : List CostTable) (sizes : List ℕ) → AreTabled spare programs tables → Own tables sizes → Whole shared tables sizes
    → Within spare shared tables sizes → HasCost programs sizes shared (cost_of tables sizes shared)
have_cost spare shared [] [] [] tabled own whole reach = ([], (refl, refl))
have_cost spare shared [] [] (size ∷ sizes) tabled own whole reach = absurd own
have_cost spare shared [] (table ∷ tables) sizes tabled own whole reach = absurd tabled
have_cost spare shared (program ∷ programs) [] sizes tabled own whole reach = absurd tabled
have_cost spare shared (program ∷ programs) (table ∷ tables) [] tabled own whole reach = absurd own
have_cost spare shared (program ∷ programs) (table ∷ tables) (size ∷ sizes) tabled own whole reach =
    let here = cell_there spare shared size program.code table tabled.0 own.0 whole.0 reach.0 in
    let rest = have_cost spare shared programs tables sizes tabled.1 own.1 whole.1 reach.1 in
    (here.0 ∷ rest.0, (cell_at table size shared, here.0, cost_of tables sizes shared, rest.0, here.1, rest.1, refl, refl))

-- what the tables prefer is preferred
pub is_preferred : (b : Bundle) (parts : List Pressure) (spare : ℕ) (tables : List CostTable) (budget : Budget) → ArePressures b.programs parts → AreTabled spare b.programs tables
    → sum_by (λ part. part.private) parts + spare ≡ b.file → IsBest tables b.file budget → IsPreferred b parts budget
is_preferred b parts spare tables budget pressures tabled all best =
    let same = demands_same spare b.programs parts tables pressures tabled in
    let total : sum_by (λ demand. demand.private) (demands_of tables) ≡ sum_by (λ part. part.private) parts = ap (sum_by (λ (d : Demand). d.private)) same ∙ own_same parts in
    let cost : (private : List ℕ) (shared : ℕ) → SizesFit (demands_of tables) b.file private shared → HasCost b.programs private shared (cost_of tables private shared) =
    λ private shared fits. have_cost spare shared b.programs tables private tabled fits.own fits.whole (within spare shared tables private fits.own (let room = fits.room in omega arith)) in
    record {
      fits = subst (λ ds. SizesFit ds b.file budget.private budget.shared) same best.fits;
      cost = subst (λ n. HasCost b.programs budget.private budget.shared n) (sym best.cost) (cost budget.private budget.shared best.fits);
      first = λ private shared fits.
          let asked = subst (λ ds. SizesFit ds b.file private shared) (sym same) fits in
          (cost_of tables private shared, cost private shared asked, best.first private shared asked);
    }
