-- The preferred budget is room enough for the plans of its sizes.
use Rattle.std.proofs.Common.{◌≡◌, ℕ, zero, suc, ◌+◌, ◌-◌, ◌<◌, ◌≤◌, List, [], ◌∷◌, ◌++◌, length, length-append, map, sum, get_or, Some, refl, sym, ap, ◌∙◌, subst, arith, inl, inr}
use Rattle.std.specs.Prelude.{slice_get, slice_index}
use Rattle.std.specs.List.{All, AllZip, sum_by}
use Rattle.std.proofs.lemmas.List.Sums.{sum_by-cons}
use Rattle.std.proofs.lemmas.Option.{same_Some, slice_get_within}
use Rattle.std.proofs.lemmas.Slice.Zip.{AllZip-long}
use Rattle.micro_isa.specs.declared.program.Line.{Line}
use Rattle.micro_isa.specs.declared.program.Program.{Program}
use Rattle.micro_isa.specs.declared.program.Bundle.{Bundle}
use Rattle.pressure.specs.declared.pressure_of.Pressure.{Pressure}
use Rattle.pressure.specs.Pressures.{IsPressureOf, IsPart, greatest, need_of}
use Rattle.plan.specs.declared.row.Plan.{Plan}
use Rattle.plan.specs.ValidPlans.{IsValidPlan}
use Rattle.range_colour.proofs.Planning.{pushed_each}
use Rattle.budget.specs.declared.Budget.{Budget}
use Rattle.budget.specs.Fitting.{SizesFit}
use Rattle.budget.proofs.Choosing.{sum-cons}
use Rattle.emitted.specs.Emitted.{ArePlans, PlansFit}
use Rattle.allocate.specs.Cells.{IsCell, IsCellOf, all_places, private_places}
use Rattle.allocate.specs.Needs.{ArePressures}
use Rattle.allocate.specs.Preferred.{HaveCells, demands_by}
use Rattle.allocate.specs.Tables.{AreChosen, IsChosenAt}
use Rattle.allocate.proofs.Zipping.{got, zip_at}
use Rattle.pressure.proofs.Unique.{pressure_once}

-- the parts of the need

pub most_own : (parts : List Pressure) (c : ℕ) (d : Pressure) → c < length parts → (get_or parts c d).private ≤ sum_by (λ part. part.private) parts
most_own [] c d lt = absurd (omega arith)
most_own (x ∷ xs) zero d lt = omega (arith, sum_by-cons (λ (q : Pressure). q.private) x xs)
most_own (x ∷ xs) (suc c) d lt = omega (arith, sum_by-cons (λ (q : Pressure). q.private) x xs, most_own xs c d (omega arith))

most_gap : (parts : List Pressure) (c : ℕ) (d : Pressure) → c < length parts → (get_or parts c d).all - (get_or parts c d).private ≤ greatest (map (λ part. part.all - part.private) parts)
most_gap [] c d lt = absurd (omega arith)
most_gap (x ∷ xs) zero d lt = omega arith
most_gap (x ∷ xs) (suc c) d lt = omega (arith, most_gap xs c d (omega arith))

pub most_part : (parts : List Pressure) (c : ℕ) (d : Pressure) → c < length parts → All IsPart parts → (get_or parts c d).all ≤ need_of parts
most_part parts c d lt are =
    let order = (are c d lt).order in
    omega (arith, most_own parts c d lt, most_gap parts c d lt)

-- what the sizes give a context

pub long_sizes : (parts : List Pressure) (file : ℕ) (sizes : List ℕ) (shared : ℕ) → SizesFit (demands_by parts) file sizes shared → length sizes ≡ length parts
long_sizes parts file sizes shared fits = same parts sizes fits.own
  where
    same : (parts : List Pressure) (sizes : List ℕ) → AllZip (λ demand size. demand.private ≤ size) (demands_by parts) sizes → length sizes ≡ length parts
    same [] [] own = refl
    same [] (size ∷ sizes) own = absurd own
    same (part ∷ parts) [] own = absurd own
    same (part ∷ parts) (size ∷ sizes) own = let rest = same parts sizes own.1 in omega arith

pub record IsGiven (part : Pressure) (size shared file : ℕ) : Type 0 where
  pub own : part.private ≤ size
  pub whole : part.all ≤ size + shared
  pub room : size + shared ≤ file

size_below : (sizes : List ℕ) (c : ℕ) → slice_index sizes c ≤ sum sizes
size_below [] c = omega arith
size_below (size ∷ sizes) zero = omega (arith, sum-cons size sizes)
size_below (size ∷ sizes) (suc c) = omega (arith, sum-cons size sizes, size_below sizes c)

pub is_given : (parts : List Pressure) (file : ℕ) (sizes : List ℕ) (shared c : ℕ) (d : Pressure) → SizesFit (demands_by parts) file sizes shared → c < length parts
    → IsGiven (get_or parts c d) (slice_index sizes c) shared file
is_given parts file sizes shared c d fits lt = record {
  own = own parts sizes c fits.own lt;
  whole = whole parts sizes c fits.whole lt;
  room = let room = fits.room in let low = size_below sizes c in omega arith;
}
  where
    own : (parts : List Pressure) (sizes : List ℕ) (c : ℕ) → AllZip (λ demand size. demand.private ≤ size) (demands_by parts) sizes → c < length parts → (get_or parts c d).private ≤ slice_index sizes c
    own [] sizes c all lt = absurd (omega arith)
    own (part ∷ parts) [] c all lt = absurd all
    own (part ∷ parts) (size ∷ sizes) zero all lt = all.0
    own (part ∷ parts) (size ∷ sizes) (suc c) all lt = own parts sizes c all.1 (omega arith)

    whole : (parts : List Pressure) (sizes : List ℕ) (c : ℕ) → AllZip (λ demand size. demand.all ≤ size + shared) (demands_by parts) sizes → c < length parts → (get_or parts c d).all ≤ slice_index sizes c + shared
    whole [] sizes c all lt = absurd (omega arith)
    whole (part ∷ parts) [] c all lt = absurd all
    whole (part ∷ parts) (size ∷ sizes) zero all lt = all.0
    whole (part ∷ parts) (size ∷ sizes) (suc c) all lt = whole parts sizes c all.1 (omega arith)

-- a plan of a cell has the sizes of the cell
cell_sizes : (code : List Line) (p r cost : ℕ) (plan : Plan) → IsCell code p r cost plan → (plan.p ≡ p) × (plan.r ≡ r)
cell_sizes code p r cost plan (inl one) = (one.fit.3.private, one.fit.3.all)
cell_sizes code p r cost plan (inr (inl one)) = (one.fit.3.private, one.fit.3.all)
cell_sizes code p r cost plan (inr (inr one)) = (one.walk.private, one.walk.all)

item_at : {A : Type 0} (xs : List A) (c : ℕ) → c < length xs → (x : A) × (slice_get xs c ≡ Some x)
item_at [] c lt = absurd (omega arith)
item_at (x ∷ xs) zero lt = (x, refl)
item_at (x ∷ xs) (suc c) lt = item_at xs c (omega arith)

-- the chosen plans are the cells of the sizes
pub have_cells : (programs : List Program) (sizes : List ℕ) (shared : ℕ) (plans : List Plan) → length sizes ≡ length programs → length plans ≡ length programs
    → ((c : ℕ) (program : Program) (plan : Plan) → slice_get programs c ≡ Some program → slice_get plans c ≡ Some plan → (cost : ℕ) × IsCellOf program.code (slice_index sizes c) shared cost plan)
    → (cost : ℕ) × HaveCells programs sizes shared cost plans
have_cells [] [] shared [] long many each = (0, (refl, refl))
have_cells [] [] shared (plan ∷ plans) long many each = absurd (omega arith)
have_cells [] (size ∷ sizes) shared plans long many each = absurd (omega arith)
have_cells (program ∷ programs) [] shared plans long many each = absurd (omega arith)
have_cells (program ∷ programs) (size ∷ sizes) shared [] long many each = absurd (omega arith)
have_cells (program ∷ programs) (size ∷ sizes) shared (plan ∷ plans) long many each =
    let here = each 0 program plan refl refl in
    let rest = have_cells programs sizes shared plans (omega arith) (omega arith) (λ c q x is there. each (suc c) q x is there) in
    (here.0 + rest.0, (here.0, plan, rest.0, plans, here.1, rest.1, refl, refl))

module _ (b : Bundle) (sizes : List ℕ) (shared : ℕ) (plans : List Plan) (chosen : AreChosen b.programs sizes shared (length b.programs) plans) where
  pub are_plans : ArePlans b plans
  are_plans = record {
    one_each = chosen.one_each;
    valid = λ c program plan is there. ((chosen.each c plan there).is program is).1;
  }

  module _ (parts : List Pressure) (pressures : ArePressures b.programs parts) (fits : SizesFit (demands_by parts) b.file sizes shared) where
    long : length sizes ≡ length b.programs
    long = long_sizes parts b.file sizes shared fits ∙ AllZip-long (λ p part. IsPressureOf p.code part) b.programs parts pressures

    pub all_cells : (cost : ℕ) × HaveCells b.programs sizes shared cost plans
    all_cells = have_cells b.programs sizes shared plans long chosen.one_each (λ c program plan is there. ((chosen.each c plan there).is program is).0)

    sizes_at : (c : ℕ) (plan : Plan) → slice_get plans c ≡ Some plan → (plan.p ≤ slice_index sizes c) × (plan.r ≤ slice_index sizes c + shared)
    sizes_at c plan there =
        let inside : c < length b.programs = let lt = slice_get_within plans c plan there in let many = chosen.one_each in omega arith in
        let program = item_at b.programs c inside in
        let longer = AllZip-long (λ p x. IsPressureOf p.code x) b.programs parts pressures in
        let part = item_at parts c (omega arith) in
        let cell = ((chosen.each c plan there).is program.0 program.1).0.1 in
        let exact = zip_at IsPressureOf b.programs parts c program.0 part.0 pressures program.1 part.1 in
        let same = pressure_once program.0.code cell.pressure part.0 cell.exact exact in
        let given = is_given parts b.file sizes shared c part.0 fits (omega arith) in
        let got : get_or parts c part.0 ≡ part.0 = read parts c part.0 part.1 in
        let own = given.own in
        let whole = given.whole in
        let got_private = ap (λ (q : Pressure). q.private) (got ∙ sym same) in
        let got_all = ap (λ (q : Pressure). q.all) (got ∙ sym same) in
        let is = cell_sizes program.0.code (private_places cell.pressure (slice_index sizes c)) (all_places cell.pressure (slice_index sizes c) shared) ((chosen.each c plan there).is program.0 program.1).0.0 plan cell.cell in
        let p = is.0 in
        let r = is.1 in
        (omega arith, omega arith)
      where
        read : (xs : List Pressure) (k : ℕ) (x : Pressure) → slice_get xs k ≡ Some x → get_or xs k x ≡ x
        read [] k x is = refl
        read (y ∷ xs) zero x is = cc
        read (y ∷ xs) (suc k) x is = read xs k x is

    pub has_room : (budget : Budget) → budget.private ≡ sizes → budget.shared ≡ shared → PlansFit b plans budget
    has_room budget own is = record {
      one_each = ap (λ l. length l) own ∙ long;
      each = λ c plan there.
          let s = sizes_at c plan there in (
            subst (λ l. plan.p ≤ slice_index l c) (sym own) s.0,
            subst (λ l. plan.r ≤ slice_index l c + budget.shared) (sym own) (subst (λ n. plan.r ≤ slice_index sizes c + n) (sym is) s.1),
          );
      file = let room = fits.room in let total = ap sum own in omega arith;
    }

-- a plan was chosen for a program
pub chosen_at : (programs : List Program) (sizes : List ℕ) (shared c : ℕ) (program : Program) (plan : Plan) → c < length programs → program ≡ get_or programs c program
    → ((cost : ℕ) × IsCellOf program.code (slice_index sizes c) shared cost plan) → IsValidPlan program.code plan → IsChosenAt programs sizes shared c plan
chosen_at programs sizes shared c program plan lt e cell valid = record {
  is = λ q there.
      let same : program ≡ q = same_Some program q (sym (got programs c program lt e) ∙ there) in
      subst (λ (x : Program). ((cost : ℕ) × IsCellOf x.code (slice_index sizes c) shared cost plan) × IsValidPlan x.code plan) same (cell, valid);
}

pub chosen_more : (programs : List Program) (sizes : List ℕ) (shared n : ℕ) (plans more : List Plan) (plan : Plan) → more ≡ plans ++ plan ∷ [] → AreChosen programs sizes shared n plans
    → IsChosenAt programs sizes shared n plan → AreChosen programs sizes shared (n + 1) more
chosen_more programs sizes shared n plans more plan is chosen one =
    let number = chosen.one_each in
    let here = subst (λ k. IsChosenAt programs sizes shared k plan) (sym number) one in
    let each = pushed_each (λ c x. IsChosenAt programs sizes shared c x) plans plan chosen.each here in
    let long = length-append plans (plan ∷ []) in
    subst (AreChosen programs sizes shared (n + 1)) (sym is) (record { one_each = omega arith; each = each })
