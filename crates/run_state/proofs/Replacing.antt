-- A list in which one item is set.
use Rattle.std.proofs.Common.{◌≡◌, ℕ, ◌<◌, List, length, Option, Some, Bool, true, false, sym, ap, ◌∙◌, subst, inl, inr}
use Rattle.std.specs.Prelude.{slice_get, slice_set, ◌==◌, if◌then◌else◌}
use Rattle.std.proofs.lemmas.Bool.{eqb-true, eqb-false, cases_eq}
use Rattle.std.proofs.lemmas.Option.{same_Some, slice_get_within}
use Rattle.semantics.proofs.Waiting.{get-set_same, get-set_other}

-- what is seen of each place
pub seen_after : {A B : Type 0} (f : Option A → B) (xs : List A) (c : ℕ) (x : A) → c < length xs → (d : ℕ) (b : Bool) → (d == c) ≡ b → (if b then f (Some x) else f (slice_get xs d)) ≡ f (slice_get (slice_set xs c x) d)
seen_after f xs c x lt d true is =
    ap f (sym (get-set_same xs c x lt)) ∙ ap (λ e. f (slice_get (slice_set xs c x) e)) (sym (eqb-true d c is))
seen_after f xs c x lt d false is = ap f (sym (get-set_other xs c d x (eqb-false d c is)))

-- what holds of each item beside that of another list
pub each_after : {A B : Type 0} (P : A → B → Type 0) (ps : List A) (xs : List B) (c : ℕ) (x0 x : B) → slice_get xs c ≡ Some x0 → ((d : ℕ) (p : A) (y : B) → slice_get ps d ≡ Some p → slice_get xs d ≡ Some y → P p y) → ((p : A) → slice_get ps c ≡ Some p → P p x) → (d : ℕ) (p : A) (y : B) → slice_get ps d ≡ Some p → slice_get (slice_set xs c x) d ≡ Some y → P p y
each_after P ps xs c x0 x old each placed d p y is_p is_y = elim (cases_eq d c) [
  | inl e ↦
      let here : slice_get ps c ≡ Some p = ap (λ n. slice_get ps n) (sym e) ∙ is_p in
      let x_is : x ≡ y = same_Some x y (sym (get-set_same xs c x (slice_get_within xs c x0 old)) ∙ ap (λ n. slice_get (slice_set xs c x) n) (sym e) ∙ is_y) in
      subst (λ k. P p k) x_is (placed p here)
  | inr ne ↦ each d p y is_p (sym (get-set_other xs c d x ne) ∙ is_y)
]
