-- Lists read by place: beginnings, and lists of which one element was replaced or one is new.
use Rattle.std.proofs.Common.{drop, zero-add, ◌≡◌, ℕ, zero, suc, ◌+◌, ◌<◌, ◌≤◌, ◌⊎◌, inl, inr, ◌++◌, Bool, true, false, List, [], ◌∷◌, length, set, nat_lt, if◌then◌else◌, refl, sym, ap, ◌∙◌, subst, arith, append-nil, append_assoc, length-append}
use Rattle.std.proofs.lemmas.Bool.{true≢false, ltb-true, ltb-false}
use mathlib.Core.Option.{some, some-injective, some-ne-none}
use mathlib.Core.List.{IsPrefix}
use lib.ListN.{get_elem?}
use Rattle.atomic_table.proofs.Lists.{at_set, at_snoc, at_longer}
use Rattle.baton.specs.Views.{longer, shorter}

abbrev tail_of : {A : Type 0} → List A → List A
tail_of [] = []
tail_of (x ∷ xs) = xs

abbrev head_or : {A : Type 0} → A → List A → A
head_or d [] = d
head_or d (x ∷ xs) = x

abbrev is_cons : {A : Type 0} → List A → Bool
is_cons [] = false
is_cons (x ∷ xs) = true

cons_not_nil : {A : Type 0} (x : A) (xs : List A) → (x ∷ xs) ≡ [] → ⊥
cons_not_nil x xs e = true≢false (ap is_cons e)

pub two_sides : {X : Type 0} (b : Bool) → b ≡ true → b ≡ false → X
two_sides true e f = absurd (true≢false f)
two_sides false e f = absurd (true≢false (sym e))

module _ {A : Type 0} where
  pub prefix_same : (xs : List A) → IsPrefix xs xs
  prefix_same xs = ([], append-nil xs)

  pub prefix_then : (xs ys zs : List A) → IsPrefix xs ys → IsPrefix ys zs → IsPrefix xs zs
  prefix_then xs ys zs (t, e) (u, f) = (t ++ u, sym (append_assoc xs t u) ∙ ap (λ w. w ++ u) e ∙ f)

  pub prefix_length : (xs ys : List A) → IsPrefix xs ys → length xs ≤ length ys
  prefix_length xs ys (t, e) = subst (λ (l : List A). length xs ≤ length l) e (let n = length-append xs t in omega (arith, n))

  -- of two beginnings of one list the shorter begins the longer
  pub prefix_compare : (xs ys zs : List A) → IsPrefix xs zs → IsPrefix ys zs → length xs ≤ length ys → IsPrefix xs ys
  prefix_compare [] ys zs p q h = (ys, refl)
  prefix_compare (x ∷ xs) [] zs p q h = absurd (omega arith)
  prefix_compare (x ∷ xs) (y ∷ ys) [] (t, e) q h = absurd (cons_not_nil x (xs ++ t) e)
  prefix_compare (x ∷ xs) (y ∷ ys) (z ∷ zs) (t, e) (u, f) h =
      let r = prefix_compare xs ys zs (t, ap tail_of e) (u, ap tail_of f) (omega arith) in
      let heads : x ≡ y = ap (head_or x) e ∙ sym (ap (head_or x) f) in
      (r.0, λ i. heads i ∷ r.1 i)

  longer_by : (xs ys zs : List A) → IsPrefix xs zs → IsPrefix ys zs → (b : Bool) → nat_lt (length xs) (length ys) ≡ b
      → IsPrefix (if b then xs else ys) (if b then ys else xs) × IsPrefix xs (if b then ys else xs) × IsPrefix ys (if b then ys else xs) × IsPrefix (if b then ys else xs) zs
  longer_by xs ys zs p q true is = let lt = ltb-true _ _ is in let le : length xs ≤ length ys = omega (arith, lt) in let r = prefix_compare xs ys zs p q le in (r, r, prefix_same ys, q)
  longer_by xs ys zs p q false is = let le = ltb-false _ _ is in let r = prefix_compare ys xs zs q p le in (r, prefix_same xs, r, p)

  -- of two beginnings of one list, each begins the longer one, and that begins the list
  pub longer_is : (xs ys zs : List A) → IsPrefix xs zs → IsPrefix ys zs → IsPrefix (shorter xs ys) (longer xs ys) × IsPrefix xs (longer xs ys) × IsPrefix ys (longer xs ys) × IsPrefix (longer xs ys) zs
  longer_is xs ys zs p q = longer_by xs ys zs p q (nat_lt (length xs) (length ys)) refl

  longer_stays_by : (xs ys : List A) → length ys ≤ length xs → (b : Bool) → nat_lt (length xs) (length ys) ≡ b → (if b then ys else xs) ≡ xs
  longer_stays_by xs ys le true is = absurd (let lt = ltb-true _ _ is in omega (arith, lt, le))
  longer_stays_by xs ys le false is = refl

  pub longer_stays : (xs ys : List A) → length ys ≤ length xs → longer xs ys ≡ xs
  longer_stays xs ys le = longer_stays_by xs ys le (nat_lt (length xs) (length ys)) refl

  pub single : (w : A) (P : ℕ → A → Type 0) → P 0 w → (i : ℕ) (v : A) → get_elem? (w ∷ []) i ≡ some v → P i v
  single w P h zero v at = subst (P 0) (some-injective w v at) h
  single w P h (suc i) v at = absurd (some-ne-none v (sym at))

  pub each_set : (l : List A) (id : ℕ) (w : A) (P : ℕ → A → Type 0) → P id w → ((i : ℕ) (v : A) → ¬ (i ≡ id) → get_elem? l i ≡ some v → P i v) → (i : ℕ) (v : A) → get_elem? (set l id w) i ≡ some v → P i v
  each_set l id w P h o i v at = elim (at_set l id i w v at) [
    | inl t ↦ subst (λ j. P j v) (sym t.0) (subst (P id) t.1 h)
    | inr t ↦ o i v t.0 t.1
  ]

  pub each_snoc : (l : List A) (w : A) (P : ℕ → A → Type 0) → ((i : ℕ) → P i w) → ((i : ℕ) (v : A) → get_elem? l i ≡ some v → P i v) → (i : ℕ) (v : A) → get_elem? (l ++ w ∷ []) i ≡ some v → P i v
  each_snoc l w P h o i v at = elim (at_snoc l w v i at) [
    | inl e ↦ o i v e
    | inr e ↦ subst (P i) e (h i)
  ]

  pub below : (l : List A) (i : ℕ) (v : A) → get_elem? l i ≡ some v → i < length l
  below [] i v at = absurd (some-ne-none v (sym at))
  below (x ∷ xs) zero v at = omega arith
  below (x ∷ xs) (suc i) v at = let h = below xs i v at in omega (arith, h)

  -- two elements among some places, where one element was replaced
  pub each_pair : (l : List A) (id : ℕ) (w : A) (R : A → A → Type 0) (Among : ℕ → Type 0) → ((j : ℕ) (y : A) → Among j → ¬ (id ≡ j) → get_elem? l j ≡ some y → R w y) → ((x y : A) → R x y → R y x)
      → ((i j : ℕ) (x y : A) → Among i → Among j → ¬ (i ≡ id) → ¬ (j ≡ id) → ¬ (i ≡ j) → get_elem? l i ≡ some x → get_elem? l j ≡ some y → R x y)
      → (i j : ℕ) (x y : A) → Among i → Among j → ¬ (i ≡ j) → get_elem? (set l id w) i ≡ some x → get_elem? (set l id w) j ≡ some y → R x y
  each_pair l id w R Among left turned others i j x y p q n a b = elim (at_set l id i w x a) [
    | inl t ↦ elim (at_set l id j w y b) [
      | inl u ↦ absurd (n (t.0 ∙ sym u.0))
      | inr u ↦ subst (λ z. R z y) t.1 (left j y q (λ e. u.0 (sym e)) u.1)
    ]
    | inr t ↦ elim (at_set l id j w y b) [
      | inl u ↦ turned y x (subst (λ z. R z x) u.1 (left i x p (λ e. t.0 (sym e)) t.1))
      | inr u ↦ others i j x y p q t.0 u.0 n t.1 u.1
    ]
  ]

  -- two elements, of which one may be new
  pub snoc_pair : (l : List A) (w : A) (R : A → A → Type 0) → ((y : A) → R w y) → ((x : A) → R x w)
      → ((i j : ℕ) (x y : A) → ¬ (i ≡ j) → get_elem? l i ≡ some x → get_elem? l j ≡ some y → R x y)
      → (i j : ℕ) (x y : A) → ¬ (i ≡ j) → get_elem? (l ++ w ∷ []) i ≡ some x → get_elem? (l ++ w ∷ []) j ≡ some y → R x y
  snoc_pair l w R left right others i j x y n a b = elim (at_snoc l w x i a) [
    | inl e ↦ elim (at_snoc l w y j b) [
      | inl f ↦ others i j x y n e f
      | inr f ↦ subst (λ z. R x z) f (right x)
    ]
    | inr e ↦ subst (λ z. R z y) e (left y)
  ]

  pub at_append : (l m : List A) (k : ℕ) (x : A) → get_elem? (l ++ m) k ≡ some x → (get_elem? l k ≡ some x) ⊎ ((q : ℕ) × (k ≡ length l + q) × (get_elem? m q ≡ some x))
  at_append [] m k x e = inr (k, sym (zero-add k), e)
  at_append (y ∷ l) m zero x e = inl e
  at_append (y ∷ l) m (suc k) x e = elim (at_append l m k x e) [
    | inl a ↦ inl a
    | inr t ↦ inr (t.0, (let p = t.1 in omega (arith, p)), t.2)
  ]

  pub at_after : (l m : List A) (q : ℕ) → get_elem? (l ++ m) (length l + q) ≡ get_elem? m q
  at_after [] m q = ap (get_elem? m) (zero-add q)
  at_after (y ∷ l) m q = let n : length (y ∷ l) + q ≡ suc (length l + q) = omega arith in rw n (at_after l m q)

  pub drop_prefix : (l m : List A) → drop (length l) (l ++ m) ≡ m
  drop_prefix [] m = refl
  drop_prefix (y ∷ l) m = drop_prefix l m

  pub longer_at : (l m : List A) (k : ℕ) (x : A) → IsPrefix l m → get_elem? l k ≡ some x → get_elem? m k ≡ some x
  longer_at l m k x (t, e) a = subst (λ z. get_elem? z k ≡ some x) e (at_longer l t k x a)
