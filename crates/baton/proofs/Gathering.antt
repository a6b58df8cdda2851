-- A list of passes, joined from its end.
use Rattle.std.proofs.Common.{◌≡◌, ℕ, suc, ◌+◌, List, [], ◌∷◌, ◌++◌, length, take, slice_index_or, Bool, true, false, refl, sym, ap, ◌∙◌, subst, arith, length-append}
use Rattle.std.proofs.lemmas.Bool.{true≢false}
use mathlib.Core.Logic.{dite}
use mathlib.Core.List.{IsPrefix}
use native.Mathlib.Decide.{ℕ_discrete}
use lib.ListN.{get_elem?}
use Rattle.baton.specs.declared.view.View.{View}
use Rattle.baton.specs.Views.{Apart}
use Rattle.baton.specs.Passes.{Gathers, IsGathered}
use Rattle.atomic_table.proofs.Lists.{at_longer}
use Rattle.baton.proofs.Lists.{prefix_same, prefix_then, at_after}
use Rattle.baton.proofs.Own.{apart_within, apart_sym}

module _ {A : Type 0} where
  abbrev tail_of : List A → List A
  tail_of [] = []
  tail_of (x ∷ xs) = xs

  abbrev head_or : A → List A → A
  head_or d [] = d
  head_or d (x ∷ xs) = x

  abbrev is_cons : List A → Bool
  is_cons [] = false
  is_cons (x ∷ xs) = true

  -- the item behind what is taken
  pub last_taken : (rest : List A) (x d : A) (xs : List A) (n : ℕ) → n ≡ suc (length rest) → rest ++ x ∷ [] ≡ take n xs → slice_index_or xs (length rest) d ≡ x
  last_taken [] x d [] n is e = absurd (true≢false (ap is_cons (e ∙ ap (λ k. take k []) is)))
  last_taken [] x d (y ∷ ys) n is e = sym (ap (head_or d) (e ∙ ap (λ k. take k (y ∷ ys)) is))
  last_taken (r ∷ rs) x d [] n is e = absurd (true≢false (ap is_cons (e ∙ ap (λ k. take k []) is)))
  last_taken (r ∷ rs) x d (y ∷ ys) n is e = last_taken rs x d ys (suc (length rs)) refl (ap tail_of (e ∙ ap (λ k. take k (y ∷ ys)) is))

  pub rest_taken : (rest : List A) (x : A) (xs : List A) (n : ℕ) → n ≡ suc (length rest) → rest ++ x ∷ [] ≡ take n xs → rest ≡ take (length rest) xs
  rest_taken [] x xs n is e = refl
  rest_taken (r ∷ rs) x [] n is e = absurd (true≢false (ap is_cons (e ∙ ap (λ k. take k []) is)))
  rest_taken (r ∷ rs) x (y ∷ ys) n is e =
      let f = e ∙ ap (λ k. take k (y ∷ ys)) is in
      let h : r ≡ y = ap (head_or r) f in
      let t = rest_taken rs x ys (suc (length rs)) refl (ap tail_of f) in
      λ i. h i ∷ t i

  last_is : (rest : List A) (x d : A) → slice_index_or (rest ++ x ∷ []) (length rest) d ≡ x
  last_is [] x d = refl
  last_is (r ∷ rs) x d = last_is rs x d

  pub front_taken : (rest : List A) (x : A) → rest ≡ take (length rest) (rest ++ x ∷ [])
  front_taken [] x = refl
  front_taken (r ∷ rs) x = λ i. r ∷ front_taken rs x i

  pub popped_length : (items rest : List A) (x : A) → items ≡ rest ++ x ∷ [] → length items ≡ suc (length rest)
  popped_length items rest x popped = let n = length-append rest (x ∷ []) in let m = ap length popped in omega (arith, n, m)

module _ {E O : Type 0} where
  pub gathers_same : (v : View E O) → Gathers v v
  gathers_same v = record { seen = prefix_same v.seen; mine = λ k x a. (k, a) }

  pub gathers_then : (a b c : View E O) → Gathers a b → Gathers b c → Gathers a c
  gathers_then a b c p q = record {
    seen = prefix_then a.seen b.seen c.seen p.seen q.seen;
    mine = λ k x m. let r = p.mine k x m in q.mine r.0 x r.1;
  }

module _ {A E O : Type 0} (view : A → View E O) where
  -- the last pass alone
  pub gathered_last : (rest : List A) (x : A) → IsGathered view (rest ++ x ∷ []) (length rest) (view x)
  gathered_last rest x =
      let n = length-append rest (x ∷ []) in
      record {
        each = λ k d le lt. let e : k ≡ length rest = omega (arith, n, le, lt) in
            subst (λ z. Gathers (view z) (view x)) (sym (ap (λ m. slice_index_or (rest ++ x ∷ []) m d) e ∙ last_is rest x d)) (gathers_same (view x));
        apart = λ i j d le lt most. absurd (omega (arith, n, le, lt, most));
      }

  -- one pass more is joined
  pub gathered_more : (passes items rest : List A) (x : A) (old new : View E O) → items ≡ rest ++ x ∷ [] → items ≡ take (length items) passes → IsGathered view passes (length items) old
      → Gathers old new → Gathers (view x) new → Apart old.mine (view x).mine → IsGathered view passes (length rest) new
  gathered_more passes items rest x old new popped taken before grows joined far =
      let n = popped_length items rest x popped in
      let here : (d : A) → slice_index_or passes (length rest) d ≡ x = λ d. last_taken rest x d passes (length items) n (sym popped ∙ taken) in
      record {
        each = λ k d le lt. dite (ℕ_discrete k (length rest))
            (λ e. subst (λ z. Gathers (view z) new) (sym (ap (λ m. slice_index_or passes m d) e ∙ here d)) joined)
            (λ ne. gathers_then (view (slice_index_or passes k d)) old new (before.each k d (omega (arith, n, ne, le)) lt) grows);
        apart = λ i j d le lt most. dite (ℕ_discrete i (length rest))
            (λ e. subst (λ z. Apart (view z).mine (view (slice_index_or passes j d)).mine) (sym (ap (λ m. slice_index_or passes m d) e ∙ here d))
            (apart_sym (view (slice_index_or passes j d)).mine (view x).mine (apart_within (view (slice_index_or passes j d)).mine old.mine (view x).mine (before.each j d (omega (arith, n, e, lt)) most).mine far)))
            (λ ne. before.apart i j d (omega (arith, n, ne, le)) lt most);
      }

module _ {E O : Type 0} where
  -- a join keeps what both had
  pub gathers_by_front : (v w : View E O) (mine : List (ℕ × E)) → IsPrefix v.seen w.seen → w.mine ≡ v.mine ++ mine → Gathers v w
  gathers_by_front v w mine p e = record { seen = p; mine = λ k x a. (k, ap (λ l. get_elem? l k) e ∙ at_longer v.mine mine k x a) }

  pub gathers_by_back : (v w : View E O) (mine : List (ℕ × E)) → IsPrefix v.seen w.seen → w.mine ≡ mine ++ v.mine → Gathers v w
  gathers_by_back v w mine p e = record { seen = p; mine = λ k x a. (length mine + k, ap (λ l. get_elem? l (length mine + k)) e ∙ at_after mine v.mine k ∙ a) }
