-- Lines of words, and the bytes that they are written with.
use Rattle.std.specs.Prelude.{ℕ, List, [], ◌∷◌, ◌++◌, codes}
use Rattle.std.specs.List.{flat_map}
use Rattle.micro_kit.specs.Text.{newline}

-- a line: its words from the first column on, or an instruction, which is indented
pub data Row : Type 0 where
  Flush : (words : List (List ℕ)) → Row
  Indented : (mnemonic : List ℕ) (operands : List (List ℕ)) → Row

-- each word, behind this gap
abbrev pub led_by : List ℕ → List (List ℕ) → List ℕ
led_by gap words = flat_map (λ w. gap ++ w) words

-- words with one space between
abbrev pub spaced : List (List ℕ) → List ℕ
spaced [] = []
spaced (w ∷ ws) = w ++ led_by (codes " ") ws

-- a space, and operands with a comma and a space between
abbrev pub operands_text : List (List ℕ) → List ℕ
operands_text [] = []
operands_text (w ∷ ws) = codes " " ++ w ++ led_by (codes ", ") ws

-- a line without its newline; an instruction stands behind two spaces
abbrev pub row_text : Row → List ℕ
row_text (Flush words) = spaced words
row_text (Indented mnemonic operands) = codes "  " ++ mnemonic ++ operands_text operands

abbrev pub line_text : Row → List ℕ
line_text row = row_text row ++ newline

-- each line with its newline
abbrev pub rows_text : List Row → List ℕ
rows_text rows = flat_map line_text rows
