-- Hexadecimal digits that are no number.
use Rattle.std.proofs.Common.{◌≡◌, ◌≤◌, ◌^◌, ℕ, ◌&&◌, Bool, true, false, List, length, refl, ◌⊎◌, inl, inr, Some, None, if◌then◌else◌, nat_lt}
use Rattle.std.specs.Prelude.{nat_le}
use Rattle.std.specs.List.{list_all}
use Rattle.std.proofs.lemmas.Bool.{le-ltb}
use Rattle.std.specs.Char.{is_ascii_hexdigit}
use Rattle.std.specs.Str.Parse.{digits_value}
use Rattle.asm_lines.specs.Numbers.{hex_number}

refused : (v : ℕ) (some all small : Bool) → (some ≡ false) ⊎ ((all ≡ false) ⊎ (small ≡ false)) → None ≡ (if some && (all && small) then Some v else None)
refused v some all small (inl e) = rw e refl
refused v true all small (inr (inl e)) = rw e refl
refused v false all small (inr (inl e)) = refl
refused v true true small (inr (inr e)) = rw e refl
refused v true false small (inr (inr e)) = refl
refused v false all small (inr (inr e)) = refl

-- digits that are no number
pub no_hex : (ds : List ℕ) → ((nat_le 1 (length ds) && nat_le (length ds) 8) ≡ false) ⊎ ((list_all is_ascii_hexdigit ds ≡ false) ⊎ (2 ^ 32 ≤ digits_value 16 ds)) → None ≡ hex_number ds
no_hex ds h = refused (digits_value 16 ds) (nat_le 1 (length ds) && nat_le (length ds) 8) (list_all is_ascii_hexdigit ds) (nat_lt (digits_value 16 ds) (2 ^ 32)) (cases h)
  where
    cases : ((nat_le 1 (length ds) && nat_le (length ds) 8) ≡ false) ⊎ ((list_all is_ascii_hexdigit ds ≡ false) ⊎ (2 ^ 32 ≤ digits_value 16 ds)) → ((nat_le 1 (length ds) && nat_le (length ds) 8) ≡ false) ⊎ ((list_all is_ascii_hexdigit ds ≡ false) ⊎ (nat_lt (digits_value 16 ds) (2 ^ 32) ≡ false))
    cases (inl e) = inl e
    cases (inr (inl e)) = inr (inl e)
    cases (inr (inr l)) = inr (inr (le-ltb _ _ l))
