-- Names and numbers as words of a line.
use Rattle.std.proofs.Common.{◌≡◌, ◌<◌, ◌^◌, ◌&&◌, ◌==◌, ℕ, Bool, true, false, List, [], ◌∷◌, Option, Some, None, refl, ap, ◌∙◌, if◌then◌else◌, arith, decimal, length, nat_lt, nat_le, is_none, unwrap_or}
use Rattle.std.proofs.lemmas.Bool.{and_parts, and_from, lt-ltb}
use Rattle.std.proofs.lemmas.Bool.Decides.{nat_tests}
use Rattle.std.proofs.lemmas.Fmt.{decimal_is_IsNumeral}
use Rattle.std.proofs.lemmas.Str.Parse.{digit_from_value}
use Rattle.std.specs.Char.{is_ascii_digit}
use Rattle.std.specs.Int.{IsInRange}
use Rattle.std.specs.List.{list_all}
use Rattle.std.specs.Str.{all_ascii_digits}
use Rattle.std.specs.Str.Parse.{AllDigits, digits_value}
use Rattle.micro_isa.specs.Names.{name_test, is_head, is_tail}
use Rattle.micro_kit.specs.Numbers.{number_of}
use Rattle.asm_lines.specs.Numbers.{word_number, after_0x, hex_or, number_or, is_no_number}
use Rattle.asm_print.proofs.Plain.{is_plain, is_plain_word}

tail_plain : (c : ℕ) → is_tail c ≡ true → is_plain c ≡ true
tail_plain c e = grind (arith, nat_tests)

tails_plain : (cs : List ℕ) → list_all is_tail cs ≡ true → list_all is_plain cs ≡ true
tails_plain [] e = refl
tails_plain (c ∷ cs) e =
    let a = and_parts (is_tail c) (list_all is_tail cs) e in
    and_from (is_plain c) (list_all is_plain cs) (tail_plain c a.0) (tails_plain cs a.1)

pub name_plain : (w : List ℕ) → name_test w ≡ true → is_plain_word w ≡ true
name_plain [] e = absurd (cc)
name_plain (c ∷ cs) e =
    tails_plain (c ∷ cs) (and_parts (nat_le (length (c ∷ cs)) 32 && is_head c) (list_all is_tail (c ∷ cs)) e).1

digit_plain : (c : ℕ) → IsInRange 48 57 c → is_plain c ≡ true
digit_plain c d = grind (arith, nat_tests)

digit_tested : (c : ℕ) → IsInRange 48 57 c → is_ascii_digit c ≡ true
digit_tested c d = grind (arith, nat_tests)

digits_plain : (cs : List ℕ) → AllDigits 10 cs → list_all is_plain cs ≡ true
digits_plain [] d = refl
digits_plain (c ∷ cs) d = and_from (is_plain c) (list_all is_plain cs) (digit_plain c (digit_from_value c d.0)) (digits_plain cs d.1)

digits_tested : (cs : List ℕ) → AllDigits 10 cs → all_ascii_digits cs ≡ true
digits_tested [] d = refl
digits_tested (c ∷ cs) d = and_from (is_ascii_digit c) (all_ascii_digits cs) (digit_tested c (digit_from_value c d.0)) (digits_tested cs d.1)

word_plain : (w : List ℕ) → 0 < length w → AllDigits 10 w → is_plain_word w ≡ true
word_plain [] h d = absurd (omega arith)
word_plain (c ∷ cs) h d = digits_plain (c ∷ cs) d

no_x : (c x : ℕ) → IsInRange 48 57 x → ((c == 48) && (x == 120)) ≡ false
no_x c x d = grind (arith, nat_tests)

not_hex : (w : List ℕ) → AllDigits 10 w → after_0x w ≡ None
not_hex [] d = refl
not_hex (c ∷ []) d = refl
not_hex (c ∷ x ∷ cs) d = ap (λ (b : Bool). if b then Some cs else None) (no_x c x (digit_from_value x (d.1).0))

spelled : (w : List ℕ) → 0 < length w → AllDigits 10 w → digits_value 10 w < 2 ^ 32 → number_of w ≡ Some (digits_value 10 w)
spelled [] h d l = absurd (omega arith)
spelled (c ∷ cs) h d l =
    ap (λ (b : Bool). if b then Some (digits_value 10 (c ∷ cs)) else None)
    (and_from (all_ascii_digits (c ∷ cs)) (nat_lt (digits_value 10 (c ∷ cs)) (2 ^ 32)) (digits_tested (c ∷ cs) d) (lt-ltb (digits_value 10 (c ∷ cs)) (2 ^ 32) l))

pub number_plain : (n : ℕ) → n < 2 ^ 32 → is_plain_word (decimal n) ≡ true
number_plain n h = let d = decimal_is_IsNumeral n (omega arith) in word_plain (decimal n) (d.0).0 (d.0).1

pub number_again : (n : ℕ) → n < 2 ^ 32 → word_number (decimal n) ≡ Some n
number_again n h =
    let d = decimal_is_IsNumeral n (omega arith) in
    ap (hex_or (decimal n)) (not_hex (decimal n) (d.0).1)
    ∙ spelled (decimal n) (d.0).0 (d.0).1 (omega (arith, d.1))
    ∙ ap Some d.1

pub number_is : (n : ℕ) → n < 2 ^ 32 → number_or (decimal n) ≡ n
number_is n h = ap (λ (o : Option ℕ). unwrap_or o 0) (number_again n h)

pub number_there : (n : ℕ) → n < 2 ^ 32 → is_no_number (decimal n) ≡ false
number_there n h = ap (λ (o : Option ℕ). is_none o) (number_again n h)
