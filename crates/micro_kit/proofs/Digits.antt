-- A text's digits, one after another.
use Rattle.std.proofs.Common.{◌≡◌, ◌≤◌, ◌<◌, ◌^◌, ℕ, zero, suc, ◌&&◌, Bool, true, false, List, [], ◌∷◌, length, take, get_or, refl, ap, ◌∙◌, arith, ◌⊎◌, inl, inr, Some, None, if◌then◌else◌, nat_lt}
use Rattle.std.proofs.lemmas.Bool.{le-ltb}
use Rattle.std.specs.Char.{is_ascii_digit}
use Rattle.std.specs.Str.{all_ascii_digits}
use Rattle.std.specs.Str.Parse.{digits_value}
use Rattle.micro_kit.specs.Numbers.{number_of}

and-true : (a : Bool) → (a && true) ≡ a
and-true true = refl
and-true false = refl

and-assoc : (a b c : Bool) → (a && (b && c)) ≡ ((a && b) && c)
and-assoc true b c = refl
and-assoc false b c = refl

and-false : (a : Bool) → (a && false) ≡ false
and-false true = refl
and-false false = refl

-- one more byte of the text
pub all_digits-take : (t : List ℕ) (i : ℕ) → i < length t → all_ascii_digits (take (suc i) t) ≡ (all_ascii_digits (take i t) && is_ascii_digit (get_or t i 0))
all_digits-take [] i h = absurd (omega arith)
all_digits-take (c ∷ cs) zero h = and-true (is_ascii_digit c)
all_digits-take (c ∷ cs) (suc i) h =
    let ih = all_digits-take cs i (omega arith) in
    ap (λ b. is_ascii_digit c && b) ih ∙ and-assoc (is_ascii_digit c) (all_ascii_digits (take i cs)) (is_ascii_digit (get_or cs i 0))

-- a byte that is no digit
pub not_all_digits : (t : List ℕ) (i : ℕ) → i < length t → is_ascii_digit (get_or t i 0) ≡ false → all_ascii_digits t ≡ false
not_all_digits [] i h e = absurd (omega arith)
not_all_digits (c ∷ cs) zero h e = ap (λ b. b && all_ascii_digits cs) e
not_all_digits (c ∷ cs) (suc i) h e = ap (λ b. is_ascii_digit c && b) (not_all_digits cs i (omega arith) e) ∙ and-false (is_ascii_digit c)

-- a text that is no number
pub no_number : (t : List ℕ) → (all_ascii_digits t ≡ false) ⊎ (2 ^ 32 ≤ digits_value 10 t) → None ≡ number_of t
no_number [] h = refl
no_number (c ∷ cs) (inl e) = rw e refl
no_number (c ∷ cs) (inr l) = elim (all_ascii_digits (c ∷ cs)) as (λ b. None ≡ (if b && nat_lt (digits_value 10 (c ∷ cs)) (2 ^ 32) then Some (digits_value 10 (c ∷ cs)) else None)) [ true ↦ rw (le-ltb _ _ l) refl | false ↦ refl ]
