-- Words as texts: where the first `=` cuts them, and how an option is spelt.
use Rattle.std.proofs.Common.{◌≡◌, ℕ, suc, ◌+◌, ◌++◌, ◌||◌, ◌&&◌, ◌==◌, ◌⊎◌, inl, inr, Bool, true, false, [], ◌∷◌, take, Some, None, is_some, if◌then◌else◌, refl, sym, ap, ◌∙◌, unwrap_or, one-add, arith}
use Rattle.std.proofs.lemmas.Bool.{true≢false}
use Rattle.std.proofs.lemmas.Bool.Decides.{Decides-eqb}
use Rattle.std.proofs.lemmas.Slice.Eq.{bytes_eq-Decides}
use Rattle.std.specs.Str.{bytes_eq}
use Rattle.std.specs.List.{before_first, after_first, position_or_len}
use Rattle.clap.specs.Lexer.{has_byte}
use Rattle.command_words.specs.Texts.{Text, after}
use Rattle.command_words.proofs.Rows.{or_left, or_right}

cons_take : (x : ℕ) (xs : Text) (k : ℕ) → take k xs ≡ xs → take (1 + k) (x ∷ xs) ≡ x ∷ xs
cons_take x xs k e = rw (one-add k) (ap (λ t. x ∷ t) e)

shift : (k : ℕ) → (1 + k) + 1 ≡ suc (k + 1)
shift k = omega arith

pub none_some : {X : Type 0} (v : X) → None ≡ Some v → ⊥
none_some v e = true≢false (sym (ap is_some e))

pub some_same : {X : Type 0} (t v : X) → Some t ≡ Some v → t ≡ v
some_same t v e = ap (λ o. unwrap_or o t) e

cut_none : (t : Text) → has_byte 61 t ≡ false → before_first (λ x. x == 61) t ≡ t
cut_none [] e = refl
cut_none (x ∷ xs) e = rw (or_left (x == 61) (has_byte 61 xs) e) (cons_take x xs _ (cut_none xs (or_right (x == 61) (has_byte 61 xs) e)))

cut_some : (t : Text) → has_byte 61 t ≡ true → t ≡ before_first (λ x. x == 61) t ++ 61 ∷ after_first (λ x. x == 61) t
cut_some [] e = absurd (true≢false (sym e))
cut_some (x ∷ xs) e =
    let go : (b : Bool) → (x == 61) ≡ b → (b || has_byte 61 xs) ≡ true → (x ∷ xs) ≡ before_first (λ x. x == 61) (x ∷ xs) ++ 61 ∷ after_first (λ x. x == 61) (x ∷ xs) = elim [
      | true ↦ λ is e. let same : x ≡ 61 = (Decides-eqb x 61).0 is in rw is (ap (λ u. u ∷ xs) same)
      | false ↦ λ is e. let ih = cut_some xs e in let k : ℕ = position_or_len (λ x. x == 61) xs in rw (is, shift k, one-add k) (ap (λ u. x ∷ u) ih)
    ] in go (x == 61) refl e

-- a text whose part before the first `=` is this name is the name, or the name with a value
pub named : (name t : Text) → bytes_eq name (before_first (λ x. x == 61) t) ≡ true → (t ≡ name) ⊎ ((v : Text) × (t ≡ name ++ 61 ∷ v))
named name t e =
    let same : name ≡ before_first (λ x. x == 61) t = (bytes_eq-Decides name _).0 e in
    let go : (b : Bool) → has_byte 61 t ≡ b → (t ≡ name) ⊎ ((v : Text) × (t ≡ name ++ 61 ∷ v)) = elim [
      | true ↦ λ is. inr (after_first (λ x. x == 61) t, cut_some t is ∙ ap (λ u. u ++ 61 ∷ after_first (λ x. x == 61) t) (sym same))
      | false ↦ λ is. inl (sym (same ∙ cut_none t is))
    ] in go (has_byte 61 t) refl

pub after_only : (p t v : Text) → after p t ≡ Some v → t ≡ p ++ v
after_only [] t v e = some_same t v e
after_only (a ∷ p) [] v e = absurd (none_some v e)
after_only (a ∷ p) (c ∷ t) v e =
    let go : (b : Bool) → (a == c) ≡ b → (if b then after p t else None) ≡ Some v → (c ∷ t) ≡ (a ∷ p) ++ v = elim [
      | true ↦ λ is e. let same : a ≡ c = (Decides-eqb a c).0 is in rw same (ap (λ u. c ∷ u) (after_only p t v e))
      | false ↦ λ is e. absurd (none_some v e)
    ] in go (a == c) refl e

pub and_false : (b : Bool) → (b && false) ≡ false
and_false true = refl
and_false false = refl

pub same_if : {X Y : Type 0} (b : Bool) (f : X → Y) (x : X) → f (if b then x else x) ≡ f x
same_if true f x = refl
same_if false f x = refl
