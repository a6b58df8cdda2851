-- Numbers without leading zeros.
use Rattle.std.proofs.Common.{◌⊎◌, inl, inr, ◌≡◌, ◌<◌, ◌≤◌, ◌^◌, ℕ, zero, suc, ◌==◌, ◌&&◌, Bool, true, false, not, nat_lt, List, [], ◌∷◌, length, get_or, refl, sym, ap, ◌∙◌, arith, if◌then◌else◌, decimal, Option, Some, None}
use Rattle.std.specs.Str.{all_ascii_digits}
use Rattle.std.specs.Str.Parse.{digits_value, AllDigits}
use Rattle.std.specs.Char.{digit_value}
use Rattle.std.specs.Prelude.{option_and_then}
use Rattle.std.proofs.lemmas.Bool.{eqb-true, lt-ltb, ltb-true}
use Rattle.std.proofs.lemmas.Bool.Decides.{nat_tests}
use Rattle.std.proofs.lemmas.Option.{same_Some}
use Rattle.std.proofs.lemmas.Fmt.{decimal-digits_value, digits_decimal, digits_value-decimal, decimal_digit, first_decimal, decimal_nonempty, decimal_is_IsNumeral}
use Rattle.std.proofs.lemmas.Str.Parse.{IsNumeralModel, numerals_by_value, tells_all_ascii_digits}
use Rattle.micro_kit.specs.Numbers.{number_of}
use Rattle.journal_text.specs.Reading.{plain_number, byte_number}
use Rattle.journal_text.proofs.Parting.{lacks}

own : IsNumeralModel (λ ds. all_ascii_digits ds ≡ true) (digits_value 10)
own = numerals_by_value (λ ds. all_ascii_digits ds ≡ true) tells_all_ascii_digits

record IsNumber (word : List ℕ) (n : ℕ) : Type 0 where
  digits : all_ascii_digits word ≡ true
  value : digits_value 10 word ≡ n
  small : n < 2 ^ 32

number_by : (word : List ℕ) (n : ℕ) (a b : Bool) → all_ascii_digits word ≡ a → nat_lt (digits_value 10 word) (2 ^ 32) ≡ b → (if a && b then Some (digits_value 10 word) else None) ≡ Some n → IsNumber word n
number_by word n true true d s h =
    let e = same_Some _ _ h in
    record { digits = d; value = e; small = omega (arith, ltb-true (digits_value 10 word) (2 ^ 32) s) }
number_by word n true false d s h = absurd (cc)
number_by word n false b d s h = absurd (cc)

number_is : (word : List ℕ) (n : ℕ) → number_of word ≡ Some n → IsNumber word n
number_is [] n h = absurd (cc)
number_is (c ∷ cs) n h = number_by (c ∷ cs) n (all_ascii_digits (c ∷ cs)) (nat_lt (digits_value 10 (c ∷ cs)) (2 ^ 32)) refl refl h

spelt : (word : List ℕ) (n : ℕ) → 0 < length word → (get_or word 0 0 ≡ 48 → length word ≡ 1) → IsNumber word n → word ≡ decimal n
spelt word n some plain is =
    sym (decimal-digits_value own word is.digits some plain (omega (arith, is.value, is.small))) ∙ ap decimal is.value

pub record IsPlain (word : List ℕ) (n : ℕ) : Type 0 where
  pub same : word ≡ decimal n
  pub small : n < 2 ^ 32

long_plain : (c d : ℕ) (ds : List ℕ) (n : ℕ) (b : Bool) → (c == 48) ≡ b → (if b then None else number_of (c ∷ d ∷ ds)) ≡ Some n → IsPlain (c ∷ d ∷ ds) n
long_plain c d ds n true e h = absurd (cc)
long_plain c d ds n false e h =
    let is = number_is (c ∷ d ∷ ds) n h in
    record { same = spelt (c ∷ d ∷ ds) n (omega arith) (λ z. absurd (grind (arith, nat_tests))) is; small = is.small }

-- what is read as a number is its decimal text
pub plain_is : (word : List ℕ) (n : ℕ) → plain_number word ≡ Some n → IsPlain word n
plain_is [] n h = absurd (cc)
plain_is (c ∷ []) n h =
    let is = number_is (c ∷ []) n h in
    record { same = spelt (c ∷ []) n (omega arith) (λ z. refl) is; small = is.small }
plain_is (c ∷ d ∷ ds) n h = long_plain c d ds n (c == 48) refl h

tested : (word : List ℕ) (n : ℕ) → IsNumber word n → (if all_ascii_digits word && nat_lt (digits_value 10 word) (2 ^ 32) then Some (digits_value 10 word) else None) ≡ Some n
tested word n is =
    let s : nat_lt (digits_value 10 word) (2 ^ 32) ≡ true = lt-ltb (digits_value 10 word) (2 ^ 32) (omega (arith, is.value, is.small)) in
    ap (λ a. if a && nat_lt (digits_value 10 word) (2 ^ 32) then Some (digits_value 10 word) else None) is.digits
    ∙ ap (λ b. if b then Some (digits_value 10 word) else None) s
    ∙ ap Some is.value

other_first : (c : ℕ) (b : Bool) (o : Option ℕ) → (c == 48) ≡ b → 48 < c → (if b then None else o) ≡ o
other_first c false o e h = refl
other_first c true o e h = absurd (grind (arith, nat_tests))

plain_of : (word : List ℕ) (n : ℕ) → IsNumber word n → 0 < length word → (length word ≡ 1) ⊎ (48 < get_or word 0 0) → plain_number word ≡ Some n
plain_of [] n is some first = absurd (omega arith)
plain_of (c ∷ []) n is some first = tested (c ∷ []) n is
plain_of (c ∷ d ∷ ds) n is some (inl one) = absurd (omega arith)
plain_of (c ∷ d ∷ ds) n is some (inr above) = other_first c (c == 48) (number_of (c ∷ d ∷ ds)) refl above ∙ tested (c ∷ d ∷ ds) n is

first_of : (n : ℕ) → n < 2 ^ 32 → (length (decimal n) ≡ 1) ⊎ (48 < get_or (decimal n) 0 0)
first_of zero h = inl (ap length (decimal_digit 0 (omega arith)))
first_of (suc n) h = inr (first_decimal (suc n) (omega arith) (omega arith))

-- a number is read from its decimal text
pub plain_again : (n : ℕ) → n < 2 ^ 32 → plain_number (decimal n) ≡ Some n
plain_again n h =
    let is : IsNumber (decimal n) n = record { digits = digits_decimal own n (omega arith); value = digits_value-decimal own n (omega arith); small = h } in
    plain_of (decimal n) n is (decimal_nonempty n (omega arith)) (first_of n h)

byte_by : (m n : ℕ) (b : Bool) → nat_lt m 256 ≡ b → (if b then Some m else None) ≡ Some n → (m ≡ n) × (n < 2 ^ 8)
byte_by m n true e h = let s = same_Some _ _ h in (s, omega (arith, ltb-true m 256 e))
byte_by m n false e h = absurd (cc)

byte_some : (o : Option ℕ) (n : ℕ) → option_and_then (λ n. if nat_lt n 256 then Some n else None) o ≡ Some n → (o ≡ Some n) × (n < 2 ^ 8)
byte_some None n h = absurd (cc)
byte_some (Some m) n h = let r = byte_by m n (nat_lt m 256) refl h in (ap Some r.0, r.1)

pub byte_is : (word : List ℕ) (n : ℕ) → byte_number word ≡ Some n → (word ≡ decimal n) × (n < 2 ^ 8)
byte_is word n h = let r = byte_some (plain_number word) n h in ((plain_is word n r.0).same, r.1)

pub byte_again : (n : ℕ) → n < 2 ^ 8 → byte_number (decimal n) ≡ Some n
byte_again n h =
    ap (option_and_then (λ n. if nat_lt n 256 then Some n else None)) (plain_again n (omega arith))
    ∙ ap (λ b. if b then Some n else None) (lt-ltb n 256 (omega arith))

other_digit : (c s : ℕ) (b : Bool) → (c == s) ≡ b → digit_value c < 10 → 10 ≤ digit_value s → not b ≡ true
other_digit c s false e h k = refl
other_digit c s true e h k = let d : digit_value c ≡ digit_value s = ap digit_value (eqb-true c s e) in absurd (omega arith)

both : (a b : Bool) → a ≡ true → b ≡ true → (a && b) ≡ true
both true b e f = f
both false b e f = e

digits_lack : (s : ℕ) (ds : List ℕ) → 10 ≤ digit_value s → AllDigits 10 ds → lacks s ds ≡ true
digits_lack s [] h d = refl
digits_lack s (c ∷ cs) h d = both _ _ (other_digit c s (c == s) refl d.0 h) (digits_lack s cs h d.1)

-- a decimal text has no separator
pub number_lacks : (s n : ℕ) → 10 ≤ digit_value s → n < 2 ^ 32 → lacks s (decimal n) ≡ true
number_lacks s n h k = digits_lack s (decimal n) h ((decimal_is_IsNumeral n (omega arith)).0).1
