-- Words that are found again in the bytes of a line.
use Rattle.std.specs.Prelude.{ℕ, ◌+◌, ◌==◌, ◌&&◌, not, nat_le, Bool, true, false, List, [], ◌∷◌}
use Rattle.std.specs.List.{list_all}
use Rattle.asm_lines.specs.Cutting.{Words, TextLine}
use Rattle.asm_print.specs.Rows.{Row, Flush, Indented}

-- a byte that separates no words and begins no comment
abbrev pub is_plain : ℕ → Bool
is_plain c = (nat_le 33 c && nat_le c 126) && (not (c == 35) && not (c == 44))

abbrev pub is_plain_word : List ℕ → Bool
is_plain_word [] = false
is_plain_word (c ∷ cs) = list_all is_plain (c ∷ cs)

abbrev pub row_words : Row → Words
row_words (Flush words) = words
row_words (Indented mnemonic operands) = mnemonic ∷ operands

abbrev pub is_plain_row : Row → Bool
is_plain_row row = list_all is_plain_word (row_words row)

-- rows as the lines of a text, from this number on
abbrev pub lines_with : ℕ → List Row → List TextLine
lines_with n [] = []
lines_with n (row ∷ rows) = record { number = n; fair = true; words = row_words row } ∷ lines_with (n + 1) rows
