-- From places to registers: the steps of an edge bring each value to its row's place.
use Rattle.std.proofs.Common.{◌≡◌, ◌≢◌, ℕ, zero, suc, ◌+◌, ◌<◌, List, [], ◌∷◌, map, length, Option, Some, Bool, true, false, refl, sym, ap, ◌∙◌, subst, length-set, get_or-set_same, get_or-set_other, arith}
use Rattle.std.specs.Prelude.{slice_get, slice_set, slice_index, bit_xor, nat_eq, ◌==◌, ◌||◌, if◌then◌else◌}
use Rattle.std.specs.List.{AllByRecursion, IsDistinct}
use Rattle.std.proofs.lemmas.Bool.{eqb-true, eqb-false}
use Rattle.std.proofs.lemmas.Bool.Decides.{nat_tests}
use Rattle.std.proofs.lemmas.Map.Keys.{IsDistinct-head, IsDistinct-tail}
use Rattle.micro_isa.specs.declared.image.PReg.{PReg}
use Rattle.edge_moves.specs.declared.step.Step.{Step}
use Rattle.edge_moves.specs.declared.step.Step.TheVariants as step
use Rattle.edge_moves.specs.MoveSteps.{Pair, is_source, move_steps}
use Rattle.edge_moves.specs.ParallelMove.{File, set_at, do_step, do_steps, is_target, AreDistinct, IsFree}
use Rattle.edge_moves.specs.Within.{StepWithin, StepsWithin, PairsWithin, FreeWithin}
use Rattle.edge_moves.proofs.Parallel.{parallel_move}
use Rattle.edge_moves.proofs.Bounds.{keeps_within}
use Rattle.semantics.specs.Machine.{read_in}
use Rattle.plan.specs.declared.row.Place.{Place}
use Rattle.plan.specs.ValidPlans.{place_in}
use Rattle.emitted.specs.Edges.{place, pairs_from, free_from}
use Rattle.emitted.proofs.Glue.{do_word, do_words}

module _ (reg : ℕ → PReg) (r size : ℕ) (apart : (q k : ℕ) → q < r → k < r → (reg q).0 ≡ (reg k).0 → q ≡ k) (inside : (q : ℕ) → q < r → (reg q).0 < size) where
  abbrev view : List ℕ → File
  view file q = read_in file (reg q)

  set_view : (file : List ℕ) (f : File) (to v u : ℕ) → to < r → length file ≡ size → v ≡ u → ((q : ℕ) → q < r → view file q ≡ f q) → (q : ℕ) → q < r → view (slice_set file (reg to).0 v) q ≡ set_at f to u q
  set_view file f to v u lt long same agree q le = by (q == to) refl
    where
      by : (b : Bool) → (q == to) ≡ b → slice_index (slice_set file (reg to).0 v) (reg q).0 ≡ (if b then u else f q)
      by true is =
          let e : q ≡ to = eqb-true q to is in
          ap (λ k. slice_index (slice_set file (reg to).0 v) (reg k).0) e ∙ get_or-set_same file (reg to).0 v 0 (subst (λ n. (reg to).0 < n) (sym long) (inside to lt)) ∙ same
      by false is = get_or-set_other file (reg to).0 (reg q).0 v 0 (λ e. eqb-false q to is (apart q to le lt e)) ∙ agree q le

  one_view : (s : Step) → StepWithin r s → (file : List ℕ) (f : File) → length file ≡ size → ((q : ℕ) → q < r → view file q ≡ f q) → (q : ℕ) → q < r → view (do_word reg s file) q ≡ do_step s f q
  one_view (step.Mov to from) h file f long agree q le = set_view file f to.0 _ _ h.0 long (agree from.0 h.1) agree q le
  one_view (step.Xor to with) h file f long agree q le =
      set_view file f to.0 _ _ h.0 long (λ i. bit_xor (agree to.0 h.0 i) (agree with.0 h.1 i)) agree q le

  one_long : (s : Step) (file : List ℕ) → length (do_word reg s file) ≡ length file
  one_long (step.Mov to from) file = length-set file (reg to.0).0 _
  one_long (step.Xor to with) file = length-set file (reg to.0).0 _

  pub long_after : (ss : List Step) (file : List ℕ) → length (do_words reg ss file) ≡ length file
  long_after [] file = refl
  long_after (s ∷ ss) file = long_after ss (do_word reg s file) ∙ one_long s file

  view_after : (ss : List Step) → StepsWithin r ss → (file : List ℕ) (f : File) → length file ≡ size → ((q : ℕ) → q < r → view file q ≡ f q) → (q : ℕ) → q < r → view (do_words reg ss file) q ≡ do_steps ss f q
  view_after [] h file f long agree q le = agree q le
  view_after (s ∷ ss) h file f long agree q le =
      view_after ss h.1 (do_word reg s file) (do_step s f) (one_long s file ∙ long) (one_view s h.0 file f long agree) q le

  one_outside : (s : Step) → StepWithin r s → (file : List ℕ) (x : ℕ) → ((q : ℕ) → q < r → x ≢ (reg q).0) → slice_index (do_word reg s file) x ≡ slice_index file x
  one_outside (step.Mov to from) h file x out = get_or-set_other file (reg to.0).0 x _ 0 (out to.0 h.0)
  one_outside (step.Xor to with) h file x out = get_or-set_other file (reg to.0).0 x _ 0 (out to.0 h.0)

  pub outside_after : (ss : List Step) → StepsWithin r ss → (file : List ℕ) (x : ℕ) → ((q : ℕ) → q < r → x ≢ (reg q).0) → slice_index (do_words reg ss file) x ≡ slice_index file x
  outside_after [] h file x out = refl
  outside_after (s ∷ ss) h file x out = outside_after ss h.1 (do_word reg s file) x out ∙ one_outside s h.0 file x out

  pub pair_moved : (pairs : List Pair) (free : Option PReg) → AreDistinct pairs → IsFree pairs free → PairsWithin r pairs → FreeWithin r free → (file : List ℕ) → length file ≡ size → (i : ℕ) (p : Pair) → slice_get pairs i ≡ Some p → (p.1).0 < r → view (do_words reg (move_steps pairs free) file) (p.1).0 ≡ view file (p.0).0
  pair_moved pairs free d f pw fw file long i p is lt =
      let m = parallel_move pairs free (move_steps pairs free) d f refl in
      view_after (move_steps pairs free) (keeps_within pairs free (move_steps pairs free) refl r pw fw) file (view file) long (λ q le. refl) (p.1).0 lt ∙ m.moves (view file) i p is

-- whether a row lists register k
abbrev pub has_reg : List Place → ℕ → Bool
has_reg [] k = false
has_reg (q ∷ qs) k = if q.register.0 == k then true else has_reg qs k

-- no register is listed twice
abbrev pub Differ : List Place → Type 0
Differ [] = Unit {0}
Differ (q ∷ qs) = (has_reg qs q.register.0 ≡ false) × Differ qs

abbrev pub places_of : List Place → List ℕ
places_of = map (λ q. q.place)

-- the pair of a listed register
pub pair_of : (f : ℕ → ℕ) (qs : List Place) (k : ℕ) → has_reg qs k ≡ true → (i : ℕ) × (slice_get (pairs_from f qs) i ≡ Some (place (f k), place (place_in qs k)))
pair_of f [] k h = absurd (cc)
pair_of f (q ∷ qs) k h = by (pair_of f qs k) (q.register.0 == k) refl h
  where
    by : (has_reg qs k ≡ true → (i : ℕ) × (slice_get (pairs_from f qs) i ≡ Some (place (f k), place (place_in qs k)))) → (b : Bool) → (q.register.0 == k) ≡ b → (if b then true else has_reg qs k) ≡ true → (i : ℕ) × (slice_get (pairs_from f (q ∷ qs)) i ≡ Some (place (f k), place (if b then q.place else place_in qs k)))
    by rest true is h = (0, ap (λ u. Some (place (f u), place q.place)) (eqb-true q.register.0 k is))
    by rest false is h = let l = rest h in (suc l.0, l.1)

no_source : (f : ℕ → ℕ) (qs : List Place) (x : ℕ) → ((k : ℕ) → has_reg qs k ≡ true → f k ≢ x) → is_source (pairs_from f qs) x ≡ false
no_source f [] x h = refl
no_source f (q ∷ qs) x h =
    let here : f q.register.0 ≢ x = h q.register.0 (grind (arith, nat_tests)) in
    let rest : is_source (pairs_from f qs) x ≡ false = no_source f qs x (λ u k. h u (grind (arith, nat_tests))) in
    grind (arith, nat_tests)

no_target : (f : ℕ → ℕ) (qs : List Place) (x : ℕ) → AllByRecursion (λ y. nat_eq x y ≡ false) (places_of qs) → is_target (pairs_from f qs) x ≡ false
no_target f [] x h = refl
no_target f (q ∷ qs) x h =
    let here : nat_eq x q.place ≡ false = h.0 in
    let ne : x ≢ q.place = eqb-false x q.place here in
    let rest : is_target (pairs_from f qs) x ≡ false = no_target f qs x h.1 in
    grind (arith, nat_tests)

-- no two registers of a list have one place
abbrev pub Apart : (ℕ → ℕ) → List Place → Type 0
Apart f qs = (k l : ℕ) → has_reg qs k ≡ true → has_reg qs l ≡ true → f k ≡ f l → k ≡ l

pub distinct_pairs : (f : ℕ → ℕ) (qs : List Place) → Differ qs → Apart f qs → IsDistinct nat_eq (places_of qs) → AreDistinct (pairs_from f qs)
distinct_pairs f [] d a b = tt
distinct_pairs f (q ∷ qs) d a b = (
  no_source f qs (f q.register.0) (λ w k e. let s : q.register.0 ≡ w = a q.register.0 w (grind (arith, nat_tests)) (grind (arith, nat_tests)) (sym e) in absurd (grind (arith, nat_tests, d.0))),
  no_target f qs q.place (IsDistinct-head nat_eq q.place (places_of qs) b),
  distinct_pairs f qs d.1 (λ x y k l e. a x y (grind (arith, nat_tests)) (grind (arith, nat_tests)) e) (IsDistinct-tail nat_eq q.place (places_of qs) b),
)

-- a place that is given is one of the list
place_there : (x : ℕ) (qs : List Place) (k : ℕ) → AllByRecursion (λ y. nat_eq x y ≡ false) (places_of qs) → has_reg qs k ≡ true → x ≢ place_in qs k
place_there x [] k a h = absurd (cc)
place_there x (q ∷ qs) k a h = by (place_there x qs k a.1) (q.register.0 == k) refl h
  where
    by : (has_reg qs k ≡ true → x ≢ place_in qs k) → (b : Bool) → (q.register.0 == k) ≡ b → (if b then true else has_reg qs k) ≡ true → x ≢ (if b then q.place else place_in qs k)
    by rest true is h = eqb-false x q.place a.0
    by rest false is h = rest h

pub apart_in : (qs : List Place) → IsDistinct nat_eq (places_of qs) → Apart (place_in qs) qs
apart_in [] d k l hk hl e = absurd (cc)
apart_in (q ∷ qs) d k l hk hl e = by (IsDistinct-head nat_eq q.place (places_of qs) d) (apart_in qs (IsDistinct-tail nat_eq q.place (places_of qs) d) k l) (q.register.0 == k) (q.register.0 == l) refl refl hk hl e
  where
    by : AllByRecursion (λ y. nat_eq q.place y ≡ false) (places_of qs) → (has_reg qs k ≡ true → has_reg qs l ≡ true → place_in qs k ≡ place_in qs l → k ≡ l) → (b c : Bool) → (q.register.0 == k) ≡ b → (q.register.0 == l) ≡ c → (if b then true else has_reg qs k) ≡ true → (if c then true else has_reg qs l) ≡ true → (if b then q.place else place_in qs k) ≡ (if c then q.place else place_in qs l) → k ≡ l
    by front rest true true eb ec hk hl e = sym (eqb-true q.register.0 k eb) ∙ eqb-true q.register.0 l ec
    by front rest true false eb ec hk hl e = absurd (place_there q.place qs l front hl e)
    by front rest false true eb ec hk hl e = absurd (place_there q.place qs k front hk (sym e))
    by front rest false false eb ec hk hl e = rest hk hl e

pub pairs_within : (r : ℕ) (f : ℕ → ℕ) (qs : List Place) → ((k : ℕ) → has_reg qs k ≡ true → f k < r) → ((i : ℕ) (q : Place) → slice_get qs i ≡ Some q → q.place < r) → PairsWithin r (pairs_from f qs)
pairs_within r f [] h g = tt
pairs_within r f (q ∷ qs) h g =
    (h q.register.0 (grind (arith, nat_tests)), g 0 q refl, pairs_within r f qs (λ w l. h w (grind (arith, nat_tests))) (λ i x e. g (suc i) x e))

free_by : (pairs : List Pair) (q : ℕ) (o : Option PReg) → IsFree pairs o → (s t : Bool) → is_source pairs q ≡ s → is_target pairs q ≡ t → IsFree pairs (if s || t then o else Some (place q))
free_by pairs q o h true t es et = h
free_by pairs q o h false true es et = h
free_by pairs q o h false false es et = (es, et)

pub free_is : (pairs : List Pair) (n q : ℕ) → IsFree pairs (free_from pairs n q)
free_is pairs zero q = tt
free_is pairs (suc n) q = free_by pairs q (free_from pairs n (q + 1)) (free_is pairs n (q + 1)) (is_source pairs q) (is_target pairs q) refl refl

free_in : (r q : ℕ) (o : Option PReg) → q < r → FreeWithin r o → (b : Bool) → FreeWithin r (if b then o else Some (place q))
free_in r q o lt h true = h
free_in r q o lt h false = lt

pub free_within : (pairs : List Pair) (r n q : ℕ) → n + q ≡ r → FreeWithin r (free_from pairs n q)
free_within pairs r zero q e = tt
free_within pairs r (suc n) q e =
    free_in r q (free_from pairs n (q + 1)) (omega arith) (free_within pairs r n (q + 1) (omega arith)) (is_source pairs q || is_target pairs q)
