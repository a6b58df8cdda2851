-- Entries with their places: where they stand, and that they stay apart.
use Rattle.std.proofs.Common.{drop, ◌≡◌, ℕ, zero, suc, ◌+◌, inl, inr, ◌++◌, List, [], ◌∷◌, length, sym, ap, ◌∙◌, arith}
use mathlib.Core.Option.{some, some-injective, some-ne-none}
use mathlib.Core.List.{IsPrefix}
use lib.ListN.{get_elem?}
use Rattle.atomic_table.proofs.Lists.{at_longer}
use Rattle.baton.specs.Views.{numbered, added, Stands, Apart, Once}
use Rattle.baton.proofs.Lists.{below, at_append, at_after, drop_prefix, longer_at}

module _ {E : Type 0} where
  pub stands_longer : (mine : List (ℕ × E)) (seen more : List E) → IsPrefix seen more → Stands mine seen → Stands mine more
  stands_longer mine seen more p s k x a = longer_at seen more x.0 x.1 p (s k x a)

  pub apart_sym : (a b : List (ℕ × E)) → Apart a b → Apart b a
  apart_sym a b p j k x y m n e = p k j y x n m (sym e)

  pub none_apart : (a b : List (ℕ × E)) → a ≡ [] → Apart a b
  none_apart a b e j k x y m n = absurd (some-ne-none x (sym (ap (λ l. get_elem? l j) (sym e) ∙ m)))

  pub apart_none : (a b : List (ℕ × E)) → b ≡ [] → Apart a b
  apart_none a b e j k x y m n = absurd (some-ne-none y (sym (ap (λ l. get_elem? l k) (sym e) ∙ n)))

  pub none_stands : (a : List (ℕ × E)) (h : List E) → a ≡ [] → Stands a h
  none_stands a h e k x m = absurd (some-ne-none x (sym (ap (λ l. get_elem? l k) (sym e) ∙ m)))

  pub none_once : (a : List (ℕ × E)) → a ≡ [] → Once a
  none_once a e j k x y n m o = absurd (some-ne-none x (sym (ap (λ l. get_elem? l j) (sym e) ∙ m)))

  pub apart_both : (a b c : List (ℕ × E)) → Apart a c → Apart b c → Apart (a ++ b) c
  apart_both a b c p q j k x y m n = elim (at_append a b j x m) [
    | inl e ↦ p j k x y e n
    | inr e ↦ q e.0 k x y e.2 n
  ]

  pub stands_both : (a b : List (ℕ × E)) (h : List E) → Stands a h → Stands b h → Stands (a ++ b) h
  stands_both a b h p q k x m = elim (at_append a b k x m) [
    | inl e ↦ p k x e
    | inr e ↦ q e.0 x e.2
  ]

  pub once_both : (a b : List (ℕ × E)) → Once a → Once b → Apart a b → Once (a ++ b)
  once_both a b p q far j k x y n m o = elim (at_append a b j x m) [
    | inl e ↦ elim (at_append a b k y o) [
      | inl f ↦ p j k x y n e f
      | inr f ↦ far j f.0 x y e f.2
    ]
    | inr e ↦ elim (at_append a b k y o) [
      | inl f ↦ (λ s. far k e.0 y x f e.2 (sym s))
      | inr f ↦ q e.0 f.0 x y (λ s. n (e.1 ∙ ap (λ t. length a + t) s ∙ sym f.1)) e.2 f.2
    ]
  ]

  -- where no place stands twice in two lists together, their places never meet
  pub once_apart : (a b : List (ℕ × E)) → Once (a ++ b) → Apart a b
  once_apart a b once j k x y m n =
      let lt = below a j x m in
      once j (length a + k) x y (λ e. absurd (omega (arith, lt, e))) (at_longer a b j x m) (at_after a b k ∙ n)

  -- what is within a list is apart from what the list is apart from
  pub apart_within : (a b c : List (ℕ × E)) → ((k : ℕ) (x : ℕ × E) → get_elem? a k ≡ some x → (q : ℕ) × (get_elem? b q ≡ some x)) → Apart b c → Apart a c
  apart_within a b c within p j k x y m n = let q = within j x m in p q.0 k x y q.1 n

  pub numbered_at : (n : ℕ) (es : List E) (k : ℕ) (x : ℕ × E) → get_elem? (numbered n es) k ≡ some x → (x.0 ≡ n + k) × (get_elem? es k ≡ some x.1)
  numbered_at n [] k x a = absurd (some-ne-none x (sym a))
  numbered_at n (e ∷ es) zero x a = let same = some-injective (n, e) x a in ((let z : n ≡ x.0 = ap (λ (t : ℕ × E). t.0) same in omega (arith, z)), ap (λ (t : ℕ × E). some t.1) same)
  numbered_at n (e ∷ es) (suc k) x a = let r = numbered_at (suc n) es k x a in ((let z = r.0 in omega (arith, z)), r.1)

  numbered_once : (n : ℕ) (es : List E) → Once (numbered n es)
  numbered_once n es j k x y ne a b same =
      let p = (numbered_at n es j x a).0 in
      let q = (numbered_at n es k y b).0 in
      ne (omega (arith, p, q, same))

  -- what stands in a history is apart from what is added behind it
  added_apart : (mine : List (ℕ × E)) (seen h : List E) → Stands mine seen → Apart mine (added seen h)
  added_apart mine seen h s j k x y m n same =
      let t = (numbered_at (length seen) (drop (length seen) h) k y n).0 in
      let lt = below seen x.0 x.1 (s j x m) in
      absurd (omega (arith, t, lt, same))

  added_stands : (seen h : List E) → IsPrefix seen h → Stands (added seen h) h
  added_stands seen h p k x m =
      let t = numbered_at (length seen) (drop (length seen) h) k x m in
      let rest : drop (length seen) h ≡ p.0 = ap (λ l. drop (length seen) l) (sym p.1) ∙ drop_prefix seen p.0 in
      ap (get_elem? h) t.0 ∙ ap (λ l. get_elem? l (length seen + k)) (sym p.1) ∙ at_after seen p.0 k ∙ ap (λ l. get_elem? l k) (sym rest) ∙ t.1

  -- the own entries after a post stand, each once, and apart from those of who has seen no more
  pub posted_stands : (mine : List (ℕ × E)) (seen h : List E) → IsPrefix seen h → Stands mine seen → Stands (mine ++ added seen h) h
  posted_stands mine seen h p s = stands_both mine (added seen h) h (stands_longer mine seen h p s) (added_stands seen h p)

  pub posted_once : (mine : List (ℕ × E)) (seen h : List E) → Stands mine seen → Once mine → Once (mine ++ added seen h)
  posted_once mine seen h s o = once_both mine (added seen h) o (numbered_once (length seen) (drop (length seen) h)) (added_apart mine seen h s)

  pub posted_apart : (mine : List (ℕ × E)) (seen h : List E) (other : List (ℕ × E)) (their : List E) → IsPrefix their seen → Stands other their → Apart mine other → Apart (mine ++ added seen h) other
  posted_apart mine seen h other their p s far =
      apart_both mine (added seen h) other far (apart_sym other (added seen h) (added_apart other seen h (stands_longer other their seen p s)))
