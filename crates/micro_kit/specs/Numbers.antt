-- Numbers as text.
use Rattle.std.specs.Prelude.{ℕ, ◌^◌, ◌&&◌, nat_lt, List, [], ◌∷◌, Option, Some, None, if◌then◌else◌}
use Rattle.std.specs.Str.{all_ascii_digits}
use Rattle.std.specs.Str.Parse.{digits_value}

-- the number that one or more decimal digits spell, where it has at most 32 bits
abbrev pub number_of : List ℕ → Option ℕ
number_of [] = None
number_of (c ∷ cs) =
    if all_ascii_digits (c ∷ cs) && nat_lt (digits_value 10 (c ∷ cs)) (2 ^ 32) then Some (digits_value 10 (c ∷ cs)) else None
