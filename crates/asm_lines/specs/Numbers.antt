-- The numbers that words spell.
use Rattle.std.specs.Prelude.{ℕ, ◌^◌, ◌==◌, ◌&&◌, nat_le, nat_lt, Bool, List, ◌∷◌, Option, Some, None, if◌then◌else◌, length, unwrap_or, is_none}
use Rattle.std.specs.List.{list_all}
use Rattle.std.specs.Char.{is_ascii_hexdigit}
use Rattle.std.specs.Str.Parse.{digits_value}
use Rattle.micro_kit.specs.Numbers as kit

-- the number of one to eight hexadecimal digits of either case
abbrev pub hex_number : List ℕ → Option ℕ
hex_number digits =
    if (nat_le 1 (length digits) && nat_le (length digits) 8) && (list_all is_ascii_hexdigit digits && nat_lt (digits_value 16 digits) (2 ^ 32))
    then Some (digits_value 16 digits) else None

-- what follows `0x`
abbrev pub after_0x : List ℕ → Option (List ℕ)
after_0x (zero_digit ∷ x ∷ digits) = if (zero_digit == 48) && (x == 120) then Some digits else None
after_0x _ = None

abbrev pub hex_or : List ℕ → Option (List ℕ) → Option ℕ
hex_or word None = kit.number_of word
hex_or word (Some digits) = hex_number digits

-- decimal digits, or hexadecimal ones after `0x`
abbrev pub word_number : List ℕ → Option ℕ
word_number word = hex_or word (after_0x word)

-- the number that a word spells, or 0
abbrev pub number_or : List ℕ → ℕ
number_or word = unwrap_or (word_number word) 0

-- a word that spells no number
abbrev pub is_no_number : List ℕ → Bool
is_no_number word = is_none (word_number word)
