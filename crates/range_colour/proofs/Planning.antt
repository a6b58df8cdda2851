-- Plans by fits over all instructions.
use Rattle.std.proofs.Common.{◌≡◌, ◌&&◌, ℕ, ◌+◌, ◌<◌, ◌≤◌, true, false, List, [], ◌∷◌, ◌++◌, Some, None, Result, Ok, Err, length, get_or, slice_get, nat_le, sym, ap, subst, refl, ◌∙◌, inl, inr, arith, length-append}
use Rattle.std.specs.Prelude.{IfOk, OnOk, slice_index}
use Rattle.std.proofs.lemmas.Bool.{cases_eq, cases_lt}
use Rattle.std.proofs.lemmas.Bool.Decides.{nat_tests}
use Rattle.std.proofs.lemmas.List.{get_or_append_left}
use Rattle.std.proofs.Math.Seq.{get_or-append_seam}
use Rattle.std.proofs.lemmas.Option.{get_or_from_slice_get, slice_get-get_or, slice_get_within}
use Rattle.micro_isa.specs.declared.program.Line.{Line}
use Rattle.flow_graph.specs.Paths.{Edge}
use Rattle.plan.specs.declared.row.PlanRow.{PlanRow}
use Rattle.plan.specs.declared.row.Plan.{Plan}
use Rattle.plan.specs.Rows.{with_row}
use Rattle.plan.specs.ValidPlans.{IsValidPlan}
use Rattle.range_colour.specs.declared.fit.Fit.{Fit}
use Rattle.range_colour.specs.Groups.{Every, InUse}
use Rattle.range_colour.specs.PlacedPlans.{DoesNotFit, Fits, IsPlacedBy, IsPlacedRow, IsWholeFit, MovesNothing}
use Rattle.range_colour.specs.Fits.{IsFit, least_all, least_private, places_in}
use Rattle.range_colour.proofs.Sizing.{below_all, fits_in, out_of_all, out_of_private}
use Rattle.range_colour.proofs.Valid.{nothing_moves, plan_valid}

pub ok_weaker : {A E : Type 0} → (P Q : A → Type 0) → ((a : A) → P a → Q a) → (r : Result A E) → IfOk r P → IfOk r Q
ok_weaker P Q on (Ok a) holds = on a holds
ok_weaker P Q on (Err e) holds = tt

pub on_ok_weaker : {A E : Type 0} → (P Q : Type 0) → (P → Q) → (r : Result A E) → OnOk r P → OnOk r Q
on_ok_weaker P Q on (Ok a) holds = on holds
on_ok_weaker P Q on (Err e) holds = tt

-- what is true of one is true of the same
pub ok_same : {A E : Type 0} → (P : A → Type 0) (a : A) → P a → (r : Result A E) → IfOk r (λ b. b ≡ a) → IfOk r P
ok_same P a here = ok_weaker (λ b. b ≡ a) P (λ b same. subst P (sym same) here)

-- one item more, of which the same is true
pub pushed_each : {X : Type 0} → (P : ℕ → X → Type 0) (xs : List X) (x : X) → ((k : ℕ) (y : X) → slice_get xs k ≡ Some y → P k y) → P (length xs) x
    → (k : ℕ) (y : X) → slice_get (xs ++ x ∷ []) k ≡ Some y → P k y
pushed_each P xs x each last k y is =
    let less = slice_get_within (xs ++ x ∷ []) k y is in
    let long = length-append xs (x ∷ []) in
    let read = get_or_from_slice_get (xs ++ x ∷ []) k y y is in
    elim (cases_eq k (length xs)) [
      | inl same ↦
          let seam : get_or (xs ++ x ∷ []) k y ≡ x = rw same (get_or-append_seam xs x [] y) in
          subst (P k) (sym seam ∙ read) (subst (λ n. P n x) (sym same) last)
      | inr other ↦
          let inside : k < length xs = omega arith in
          each k y (slice_get-get_or xs k y inside ∙ ap Some (sym (get_or_append_left xs (x ∷ []) y k inside) ∙ read))
    ]

-- the plan has these sizes, and rows of the first n instructions with the places that are given for them
pub record IsPlacedTo (code : List Line) (p r n : ℕ) (at : ℕ → ℕ → ℕ) (plan : Plan) : Type 0 where
  pub private : plan.p ≡ p
  pub all : plan.r ≡ r
  pub whole : length plan.rows ≡ n
  pub each : (k : ℕ) (row : PlanRow) → slice_get plan.rows k ≡ Some row → IsPlacedRow code k (at k) row

pub placed_none : (code : List Line) (at : ℕ → ℕ → ℕ) (plan : Plan) → plan.rows ≡ [] → IsPlacedTo code plan.p plan.r 0 at plan
placed_none code at plan none =
    let long : length plan.rows ≡ 0 = ap length none in
    record {
      private = refl;
      all = refl;
      whole = long;
      each = λ k row is. absurd (let inside = slice_get_within plan.rows k row is in omega arith);
    }

pub placed_more : (code : List Line) (p r n : ℕ) (at : ℕ → ℕ → ℕ) (before after : Plan) → IsPlacedTo code p r n at before
    → (row : PlanRow) × IsPlacedRow code n (at n) row × (after ≡ with_row before row) → IsPlacedTo code p r (n + 1) at after
placed_more code p r n at before after so_far more =
    let row = more.0 in
    let whole = so_far.whole in
    let last = subst (λ m. IsPlacedRow code m (at m) row) (sym whole) more.1 in
    let long = length-append before.rows (row ∷ []) in
    rw more.2 (record {
      private = so_far.private;
      all = so_far.all;
      whole = omega arith;
      each = pushed_each (λ k x. IsPlacedRow code k (at k) x) before.rows row so_far.each last;
    })

pub placed_all : (code : List Line) (p r n : ℕ) (at : ℕ → ℕ → ℕ) (plan : Plan) → n ≡ length code → IsPlacedTo code p r n at plan → IsPlacedBy code p r at plan
placed_all code p r n at plan last placed = record {
  private = placed.private;
  all = placed.all;
  rows = record { one_each = placed.whole ∙ last; each = placed.each };
}

-- what the test of sizes tells
pub sizes_fit : (a b m n : ℕ) → (nat_le a m && nat_le b n) ≡ true → (a ≤ m) × (b ≤ n)
sizes_fit a b m n e = (grind (arith, nat_tests), grind (arith, nat_tests))

pub out_by_test : (code : List Line) (Group : ℕ → Type 0) (fit : Fit) (p r : ℕ) → IsFit code Group fit → (nat_le (least_private fit) p && nat_le (least_all fit) r) ≡ false
    → DoesNotFit code Group (slice_index (places_in fit)) p r
out_by_test code Group fit p r is none = elim (cases_lt p (least_private fit)) [
  | inl less ↦ out_of_private code Group (places_in fit) (least_private fit) (least_all fit) is p r less
  | inr more ↦ elim (cases_lt r (least_all fit)) [
    | inl less ↦ out_of_all code Group (places_in fit) (least_private fit) (least_all fit) is p r less
    | inr enough ↦ absurd (grind (arith, nat_tests))
  ]
]

pub fits_by_test : (code : List Line) (Group : ℕ → Type 0) (fit : Fit) (p r : ℕ) → IsFit code Group fit → (nat_le (least_private fit) p && nat_le (least_all fit) r) ≡ true
    → Fits code Group (slice_index (places_in fit)) p r
fits_by_test code Group fit p r is all =
    let le = sizes_fit (least_private fit) (least_all fit) p r all in
    fits_in code Group (places_in fit) (least_private fit) (least_all fit) is p r le.0 le.1

-- what is in use at an instruction has a place that a plan can tell
pub small_place : (code : List Line) (Group : ℕ → Type 0) (f : ℕ → ℕ) (p r i k : ℕ) → p ≤ r → r ≤ 128 → Fits code Group f p r → i < length code → Group i → InUse code i k k → f k < 256
small_place code Group f p r i k order few fits less own used = let under = below_all code Group f p r k order fits (i, less, own, used) in omega arith

module _ (code : List Line) (fit : Fit) (p r : ℕ) (is : IsFit code Every fit) (order : p ≤ r) (few : r ≤ 128) where
  abbrev pub whole_places : ℕ → ℕ → ℕ
  whole_places i = slice_index (places_in fit)

  pub whole_none : (nat_le (least_private fit) p && nat_le (least_all fit) r) ≡ false → IsWholeFit code p r None
  whole_none none = (slice_index (places_in fit), is.first, out_by_test code Every fit p r is none)

  module _ (all : (nat_le (least_private fit) p && nat_le (least_all fit) r) ≡ true) where
    fits : Fits code Every (slice_index (places_in fit)) p r
    fits = fits_by_test code Every fit p r is all

    pub whole_small : (i k : ℕ) → i < length code → InUse code i k k → slice_index (places_in fit) k < 256
    whole_small i k less used = small_place code Every (slice_index (places_in fit)) p r i k order few fits less tt used

    pub whole_some : (plan : Plan) → IsPlacedBy code p r whole_places plan → IsWholeFit code p r (Some plan)
    whole_some plan placed = (slice_index (places_in fit), is.first, fits, placed)

    pub whole_valid : (plan : Plan) → IsPlacedBy code p r whole_places plan → IsValidPlan code plan
    whole_valid plan placed = plan_valid code p r whole_places plan (λ i. Every) order few (λ i less. tt) (λ i less. is.first) (λ i less. fits) placed

    pub whole_still : (plan : Plan) → IsPlacedBy code p r whole_places plan → (i j : ℕ) → Edge code i j → MovesNothing code plan i j
    whole_still plan placed i j edge = nothing_moves code p r whole_places plan i j placed edge (λ k live. refl)
