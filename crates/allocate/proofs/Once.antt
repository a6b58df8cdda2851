-- A bundle has one need, and one allocation at most.
use Rattle.std.proofs.Common.{◌≡◌, ℕ, ◌+◌, ◌≤◌, List, [], ◌∷◌, Some, None, length, refl, sym, ap, ◌∙◌, subst, arith, inl, inr}
use Rattle.std.specs.List.{AllZip}
use Rattle.std.proofs.lemmas.Slice.Zip.{AllZip-long}
use Rattle.micro_isa.specs.declared.program.Line.{Line}
use Rattle.micro_isa.specs.declared.program.Program.{Program}
use Rattle.micro_isa.specs.declared.program.Bundle.{Bundle}
use Rattle.pressure.specs.declared.pressure_of.Pressure.{Pressure}
use Rattle.pressure.specs.Pressures.{IsPressureOf, need_of}
use Rattle.pressure.proofs.Unique.{pressure_once}
use Rattle.plan.specs.declared.row.Plan.{Plan}
use Rattle.range_colour.proofs.Unique.{region_once, whole_once}
use Rattle.point_walk.proofs.Once.{walk_once}
use Rattle.budget.specs.declared.Budget.{Budget}
use Rattle.budget.specs.Fitting.{Demand}
use Rattle.budget.specs.Best.{IsNoLater}
use Rattle.budget.proofs.Keys.{by_key_antisym, no_greater_antisym}
use Rattle.emitted.specs.Words.{glue_of}
use Rattle.emitted.specs.Emitted.{emitted}
use Rattle.allocate.specs.declared.allocation.Allocation.{Allocation}
use Rattle.allocate.specs.Needs.{ArePressures, HasNeed, IsNeed}
use Rattle.allocate.specs.Cells.{IsCell, IsCellOf, all_places, private_places}
use Rattle.allocate.specs.Preferred.{HaveCells, IsPreferred, demands_by}
use Rattle.allocate.specs.Allocations.{glue_of_all, IsAllocation, HasOneAllocation}

some_same : (x y : Plan) → Some x ≡ Some y → x ≡ y
some_same x y e = cc

-- a context has one plan for given numbers of places, and one cost
pub cell_once : (code : List Line) (p r c d : ℕ) (x y : Plan) → IsCell code p r c x → IsCell code p r d y → (c ≡ d) × (x ≡ y)
cell_once code p r c d x y (inl one) (inl two) =
    (one.free ∙ sym two.free, some_same x y (whole_once code p r (Some x) (Some y) one.fit two.fit))
cell_once code p r c d x y (inl one) (inr (inl two)) = absurd (let e = whole_once code p r (Some x) None one.fit two.out in cc)
cell_once code p r c d x y (inl one) (inr (inr two)) = absurd (let e = whole_once code p r (Some x) None one.fit two.out in cc)
cell_once code p r c d x y (inr (inl one)) (inl two) = absurd (let e = whole_once code p r (Some y) None two.fit one.out in cc)
cell_once code p r c d x y (inr (inr one)) (inl two) = absurd (let e = whole_once code p r (Some y) None two.fit one.out in cc)
cell_once code p r c d x y (inr (inl one)) (inr (inl two)) =
    let same = some_same x y (region_once code p r (Some x) (Some y) one.fit two.fit) in (one.glue ∙ ap (glue_of code) same ∙ sym two.glue, same)
cell_once code p r c d x y (inr (inl one)) (inr (inr two)) =
    absurd (let le = one.least y two.walk in let less = two.least x one.fit in let g = one.glue in let h = two.glue in omega arith)
cell_once code p r c d x y (inr (inr one)) (inr (inl two)) =
    absurd (let le = two.least x one.walk in let less = one.least y two.fit in let g = one.glue in let h = two.glue in omega arith)
cell_once code p r c d x y (inr (inr one)) (inr (inr two)) =
    let same = walk_once code p r x y one.walk two.walk in (one.glue ∙ ap (glue_of code) same ∙ sym two.glue, same)

cell_of_once : (code : List Line) (size shared c d : ℕ) (x y : Plan) → IsCellOf code size shared c x → IsCellOf code size shared d y → (c ≡ d) × (x ≡ y)
cell_of_once code size shared c d x y one two =
    let same = pressure_once code one.pressure two.pressure one.exact two.exact in
    let cell = subst (λ q. IsCell code (private_places q size) (all_places q size shared) c x) same one.cell in
    cell_once code (private_places two.pressure size) (all_places two.pressure size shared) c d x y cell two.cell

pub cells_once : (programs : List Program) (sizes : List ℕ) (shared c d : ℕ) (xs ys : List Plan) → HaveCells programs sizes shared c xs → HaveCells programs sizes shared d ys
    → (c ≡ d) × (xs ≡ ys)
cells_once [] [] shared c d xs ys one two = (one.0 ∙ sym two.0, one.1 ∙ sym two.1)
cells_once [] (size ∷ sizes) shared c d xs ys one two = absurd one
cells_once (program ∷ programs) [] shared c d xs ys one two = absurd one
cells_once (program ∷ programs) (size ∷ sizes) shared c d xs ys one two =
    let here = cell_of_once program.code size shared one.0 two.0 one.1 two.1 one.4 two.4 in
    let rest = cells_once programs sizes shared one.2 two.2 one.3 two.3 one.5 two.5 in (
      one.6 ∙ (λ i. here.0 i + rest.0 i) ∙ sym two.6,
      one.7 ∙ (λ i. here.1 i ∷ rest.1 i) ∙ sym two.7,
    )

zip_once : {B : Type 0} (R : List Line → B → Type 0) → ((code : List Line) (x y : B) → R code x → R code y → x ≡ y) → (ps : List Program) (xs ys : List B) → AllZip (λ p x. R p.code x) ps xs → AllZip (λ p y. R p.code y) ps ys → xs ≡ ys
zip_once R one [] [] [] a b = refl
zip_once R one [] (x ∷ xs) ys a b = absurd a
zip_once R one [] [] (y ∷ ys) a b = absurd b
zip_once R one (p ∷ ps) [] ys a b = absurd a
zip_once R one (p ∷ ps) (x ∷ xs) [] a b = absurd b
zip_once R one (p ∷ ps) (x ∷ xs) (y ∷ ys) a b = λ i. one p.code x y a.0 b.0 i ∷ zip_once R one ps xs ys a.1 b.1 i

pub parts_once : (b : Bundle) (xs ys : List Pressure) → ArePressures b.programs xs → ArePressures b.programs ys → xs ≡ ys
parts_once b xs ys = zip_once IsPressureOf pressure_once b.programs xs ys

need_once : (b : Bundle) (n m : ℕ) → HasNeed b n → HasNeed b m → n ≡ m
need_once b n m x y = x.number ∙ ap need_of (parts_once b x.parts y.parts x.pressures y.pressures) ∙ sym y.number

pub is_need : (b : Bundle) (parts : List Pressure) (need : ℕ) → ArePressures b.programs parts → need ≡ need_of parts → IsNeed b need
is_need b parts need pressures e =
    let has : HasNeed b need = record { parts = parts; pressures = pressures; number = e } in
    record { has = has; only = λ n h. need_once b n need h has }

long_sizes : (demands : List Demand) (sizes : List ℕ) → AllZip (λ demand size. demand.private ≤ size) demands sizes → length sizes ≡ length demands
long_sizes = AllZip-long (λ demand size. demand.private ≤ size)

same_budget : (x y : Budget) → x.private ≡ y.private → x.shared ≡ y.shared → x.cost ≡ y.cost → x ≡ y
same_budget x y private shared cost = λ i. record { private = private i; shared = shared i; cost = cost i }

-- budgets of which neither is preferred are one
no_later_once : (x y : Budget) → length x.private ≡ length y.private → IsNoLater x y → IsNoLater y x → x ≡ y
no_later_once x y long ahead behind =
    let costs = by_key_antisym _ _ _ _ ahead behind in
    let totals = by_key_antisym _ _ _ _ costs.1.0 costs.1.1 in
    let shared = by_key_antisym _ _ _ _ totals.1.0 totals.1.1 in
    same_budget x y (no_greater_antisym x.private y.private long shared.1.0 shared.1.1) (sym shared.0) costs.0

-- this budget comes no later than another one that is preferred
ahead_of : (b : Bundle) (parts : List Pressure) (x y : Budget) → IsPreferred b parts x → IsPreferred b parts y → IsNoLater x y
ahead_of b parts x y one two =
    let found = one.first y.private y.shared two.fits in
    let cost : found.0 ≡ y.cost = (cells_once b.programs y.private y.shared found.0 y.cost found.1.0 two.cost.0 found.1.1 two.cost.1).0 in
    subst (λ n. IsNoLater x (record { private = y.private; shared = y.shared; cost = n })) cost found.2

pub preferred_once : (b : Bundle) (parts : List Pressure) (x y : Budget) → IsPreferred b parts x → IsPreferred b parts y → x ≡ y
preferred_once b parts x y one two =
    let long = long_sizes (demands_by parts) x.private one.fits.own in
    let other = long_sizes (demands_by parts) y.private two.fits.own in
    no_later_once x y (long ∙ sym other) (ahead_of b parts x y one two) (ahead_of b parts y x two one)

module _ (b : Bundle) (x y : Allocation) (a : IsAllocation b x) (c : IsAllocation b y) where
  parts : a.parts ≡ c.parts
  parts = parts_once b a.parts c.parts a.pressures c.pressures

  budget : x.budget ≡ y.budget
  budget = preferred_once b c.parts x.budget y.budget (subst (λ parts. IsPreferred b parts x.budget) parts a.preferred) c.preferred

  plans : x.plans ≡ y.plans
  plans =
      let mine = subst (λ (n : Budget). HaveCells b.programs n.private n.shared n.cost x.plans) budget a.cells in
      (cells_once b.programs y.budget.private y.budget.shared y.budget.cost y.budget.cost x.plans y.plans mine c.cells).1

  glue : x.glue ≡ y.glue
  glue = a.glue ∙ ap (glue_of_all b) plans ∙ sym c.glue

  same_allocation : x ≡ y
  same_allocation = λ i. record {
    image = (a.image ∙ (λ j. emitted b (plans j) (budget j)) ∙ sym c.image) i;
    budget = budget i;
    plans = plans i;
    glue = glue i;
    need = (a.need ∙ ap need_of parts ∙ sym c.need) i;
  }

pub one_allocation : (b : Bundle) → HasOneAllocation b
one_allocation b = record { once = λ x y a c. same_allocation b x y a c }
