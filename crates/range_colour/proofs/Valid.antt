-- Rows by first fits are valid, and nothing moves where two rows have one fit.
use Rattle.std.proofs.Common.{◌≡◌, ◌≢◌, ◌==◌, ℕ, zero, suc, ◌<◌, ◌≤◌, ◌⊎◌, ◌↔◌, Bool, true, false, cond, List, [], ◌∷◌, Option, Some, None, length, get_or, is_some, map, nat_eq, sym, ap, subst, refl, ◌∙◌, inl, inr, arith}
use Rattle.std.specs.List.{AllByRecursion, Contains, IsDistinct}
use Rattle.std.proofs.lemmas.Bool.{eq-eqb, eqb-true}
use Rattle.std.proofs.lemmas.Grind.{get_or_default_zero}
use Rattle.std.proofs.lemmas.Map.Keys.{IsDistinct-cons}
use Rattle.std.proofs.lemmas.Option.{slice_get_within}
use Rattle.micro_isa.specs.declared.program.Line.{Line}
use Rattle.flow_graph.specs.Paths.{Edge}
use Rattle.liveness.specs.Liveness.{LiveIn}
use Rattle.liveness.specs.Surviving.{WritesAt, IsAfter}
use Rattle.liveness.proofs.Steps.{crosses_live, stays_live, survives}
use Rattle.plan.specs.declared.row.Place.{Place}
use Rattle.plan.specs.declared.row.PlanRow.{PlanRow}
use Rattle.plan.specs.declared.row.Plan.{Plan}
use Rattle.plan.specs.ValidPlans.{IsValidPlan, IsValidRow, place_in, registers_of}
use Rattle.range_colour.specs.Groups.{InUse, MeetsIn}
use Rattle.range_colour.specs.PlacedPlans.{Fits, IsFitOf, IsPlacedBy, IsPlacedRow, MovesNothing}
use Rattle.range_colour.proofs.Sizing.{below_all, places_apart}

-- members of a list with one item in front
pub first_or_behind : {X : Type 0} → (x : X) (xs : List X) (y : X) → Contains (x ∷ xs) y → (x ≡ y) ⊎ Contains xs y
first_or_behind x xs y has = go has.0 has.1 has.2
  where
    go : (k : ℕ) → k < length (x ∷ xs) → get_or (x ∷ xs) k y ≡ y → (x ≡ y) ⊎ Contains xs y
    go zero less is = inl is
    go (suc k) less is = inr (k, omega arith, is)

pub is_first : {X : Type 0} → (x : X) (xs : List X) → Contains (x ∷ xs) x
is_first x xs = (0, omega arith, refl)

pub is_behind : {X : Type 0} → (x : X) (xs : List X) (y : X) → Contains xs y → Contains (x ∷ xs) y
is_behind x xs y has = (suc has.0, let less = has.1 in omega arith, has.2)

has_register : (places : List Place) (q : Place) → Contains places q → Contains (registers_of places) q.register.0
has_register [] q has = absurd (let less = has.1 in omega arith)
has_register (first ∷ places) q has = elim (first_or_behind first places q has) [
  | inl same ↦ subst (λ (x : Place). Contains (registers_of (first ∷ places)) x.register.0) same (is_first first.register.0 (registers_of places))
  | inr behind ↦ is_behind first.register.0 (registers_of places) q.register.0 (has_register places q behind)
]

-- the place of a listed register
pub place_is : (places : List Place) (f : ℕ → ℕ) (k : ℕ) → ((q : Place) → Contains places q → q.place ≡ f q.register.0) → Contains (registers_of places) k → place_in places k ≡ f k
place_is [] f k each has = absurd (let less = has.1 in omega arith)
place_is (first ∷ places) f k each has = by (λ behind. place_is places f k (λ q member. each q (is_behind first places q member)) behind) (first.register.0 == k) refl
  where
    by : (Contains (registers_of places) k → place_in places k ≡ f k) → (t : Bool) → (first.register.0 == k) ≡ t → cond t first.place (place_in places k) ≡ f k
    by later true e = each first (is_first first places) ∙ ap f (eqb-true _ _ e)
    by later false e = elim (first_or_behind first.register.0 (registers_of places) k has) [
      | inl same ↦ absurd (let yet = eq-eqb first.register.0 k same in cc)
      | inr behind ↦ later behind
    ]

none_distinct : IsDistinct nat_eq []
unfolding IsDistinct
none_distinct = tt

is_other : (a b : ℕ) → a ≢ b → nat_eq a b ≡ false
is_other a b differ = by (a == b) refl
  where
    by : (t : Bool) → (a == b) ≡ t → t ≡ false
    by true e = absurd (differ (eqb-true _ _ e))
    by false e = refl

all_other : (n : ℕ) (places : List Place) → ((q : Place) → Contains places q → n ≢ q.place) → AllByRecursion (λ y. nat_eq n y ≡ false) (map (λ q. q.place) places)
all_other n [] differ = tt
all_other n (q ∷ places) differ = (is_other n q.place (differ q (is_first q places)), all_other n places (λ x has. differ x (is_behind q places x has)))

-- rising registers with places that differ
places_distinct : (places : List Place) (f : ℕ → ℕ) → ((a b : ℕ) → a < b → b < length (registers_of places) → get_or (registers_of places) a 0 < get_or (registers_of places) b 0)
    → ((q : Place) → Contains places q → q.place ≡ f q.register.0)
    → ((j k : ℕ) → Contains (registers_of places) j → Contains (registers_of places) k → j ≢ k → f j ≢ f k)
    → IsDistinct nat_eq (map (λ q. q.place) places)
places_distinct [] f rising each apart = none_distinct
places_distinct (first ∷ places) f rising each apart =
    IsDistinct-cons nat_eq first.place (map (λ q. q.place) places) (all_other first.place places differ) (places_distinct places f
    (λ a b less inside. rising (suc a) (suc b) (omega arith) (omega arith))
    (λ q has. each q (is_behind first places q has))
    (λ j k has_j has_k. apart j k (is_behind first.register.0 (registers_of places) j has_j) (is_behind first.register.0 (registers_of places) k has_k)))
  where
    above : (q : Place) → Contains places q → first.register.0 < q.register.0
    above q has =
        let at = has_register places q has in
        let less = at.1 in
        let up = rising 0 (suc at.0) (omega arith) (omega arith) in
        let is = at.2 in
        let zero_is = get_or_default_zero (registers_of places) at.0 q.register.0 at.1 in
        omega arith

    differ : (q : Place) → Contains places q → first.place ≢ q.place
    differ q has same =
        let mine = each first (is_first first places) in
        let other = each q (is_behind first places q has) in
        let up = above q has in
        apart first.register.0 q.register.0 (is_first first.register.0 (registers_of places)) (is_behind first.register.0 (registers_of places) q.register.0 (has_register places q has))
        (λ e. omega arith) (sym mine ∙ same ∙ other)

-- what is in use at an instruction of the group meets in it
used_meets : (code : List Line) (Group : ℕ → Type 0) (i j k : ℕ) → i < length code → Group i → InUse code i j k → MeetsIn code Group j k
used_meets code Group i j k less own used = (i, less, own, used)

module _ (code : List Line) (Group : ℕ → Type 0) (i p r : ℕ) (f : ℕ → ℕ) (row : PlanRow) (less : i < length code) (own : Group i) (order : p ≤ r)
    (fit : IsFitOf code Group f) (fits : Fits code Group f p r) (placed : IsPlacedRow code i f row) where
  live_meets : (j k : ℕ) → LiveIn code i j → LiveIn code i k → MeetsIn code Group j k
  live_meets j k live_j live_k = used_meets code Group i j k less own (inl (live_j, live_k))

  after_meets : (j k : ℕ) → IsAfter code i j → IsAfter code i k → MeetsIn code Group j k
  after_meets j k after_j after_k = used_meets code Group i j k less own (inr (after_j, after_k))

  pub listed_place : (k : ℕ) → LiveIn code i k → place_in row.places k ≡ f k
  listed_place k live = place_is row.places f k placed.places ((placed.lists.exact k).1 live)

  low : (k : ℕ) → MeetsIn code Group k k → f k < r
  low k there = below_all code Group f p r k order fits there

  pub row_valid : IsValidRow code p r i row
  row_valid = record {
    lists = placed.lists;
    writes = placed.writes;
    in_range = λ q has.
        let live = (placed.lists.exact q.register.0).0 (has_register row.places q has) in
        let is = placed.places q has in
        let under = low q.register.0 (live_meets q.register.0 q.register.0 live live) in omega arith;
    write_in_range = λ w some.
        let written = placed.writes.0 (ap is_some some) in
        let is = placed.written written.0 w written.1 some in
        let under = low written.0 (after_meets written.0 written.0 (inr written.1) (inr written.1)) in omega arith;
    apart = places_distinct row.places f placed.lists.rising placed.places (λ j k has_j has_k differ.
        let live_j = (placed.lists.exact j).0 has_j in
        let live_k = (placed.lists.exact k).0 has_k in
        places_apart code Group f j k fit (live_meets j k live_j live_k) (live_meets k j live_k live_j) differ);
    write_apart = λ k w stays some same.
        let written = placed.writes.0 (ap is_some some) in
        let is = placed.written written.0 w written.1 some in
        let mine = listed_place k (stays_live code i k stays) in
        places_apart code Group f k written.0 fit
        (after_meets k written.0 (inl stays.0) (inr written.1)) (after_meets written.0 k (inr written.1) (inl stays.0))
        (λ e. stays.1 (subst (WritesAt code i) (sym e) written.1)) (sym mine ∙ same ∙ is);
    private = λ k cross.
        let live = crosses_live code i k cross in
        let mine = listed_place k live in
        let under = (fits k (live_meets k k live live)).0 (i, less, own, cross) in omega arith;
  }

-- a plan whose rows have places by fits over groups that they are of
pub plan_valid : (code : List Line) (p r : ℕ) (at : ℕ → ℕ → ℕ) (plan : Plan) (Group : ℕ → ℕ → Type 0) → p ≤ r → r ≤ 128
    → ((i : ℕ) → i < length code → Group i i) → ((i : ℕ) → i < length code → IsFitOf code (Group i) (at i)) → ((i : ℕ) → i < length code → Fits code (Group i) (at i) p r)
    → IsPlacedBy code p r at plan → IsValidPlan code plan
plan_valid code p r at plan Group order few own fit fits placed = record {
  order = rw (placed.private, placed.all) order;
  few = rw placed.all few;
  one_each = placed.rows.one_each;
  rows = λ i row is.
      let inside = slice_get_within plan.rows i row is in
      let less : i < length code = let e = placed.rows.one_each in omega arith in
      let valid = row_valid code (Group i) i p r (at i) row less (own i less) order (fit i less) (fits i less) (placed.rows.each i row is) in
      rw (placed.private, placed.all) valid;
}

-- an edge between rows that give what lives on the same places
pub nothing_moves : (code : List Line) (p r : ℕ) (at : ℕ → ℕ → ℕ) (plan : Plan) (i j : ℕ) → IsPlacedBy code p r at plan → Edge code i j
    → ((k : ℕ) → LiveIn code j k → at i k ≡ at j k) → MovesNothing code plan i j
nothing_moves code p r at plan i j placed edge same row next is_row is_next k live =
    let mine = placed.rows.each i row is_row in
    let other = placed.rows.each j next is_next in
    let there = place_is next.places (at j) k other.places ((other.lists.exact k).1 live) in (
      λ writes. written row.write refl mine.writes (k, writes) (λ w some. mine.written k w writes some ∙ same k live ∙ sym there),
      λ none.
          let stays = survives code i j k edge live none in
          place_is row.places (at i) k mine.places ((mine.lists.exact k).1 (stays_live code i k stays)) ∙ same k live ∙ sym there,
    )
  where
    written : (o : Option ℕ) → row.write ≡ o → (is_some row.write ≡ true) ↔ ((k : ℕ) × WritesAt code i k) → ((k : ℕ) × WritesAt code i k)
        → ((w : ℕ) → row.write ≡ Some w → w ≡ place_in next.places k) → row.write ≡ Some (place_in next.places k)
    written None none some writes is = absurd (let yet = some.1 writes in cc)
    written (Some w) e some writes is = e ∙ ap Some (is w e)
