-- The lines of a text and the words of a line.
use Rattle.std.specs.Prelude.{ℕ, ◌+◌, ◌++◌, ◌==◌, ◌||◌, ◌&&◌, nat_le, Bool, List, [], ◌∷◌, if◌then◌else◌}
use Rattle.std.specs.List.{list_all}

-- a list of words, or of names
abbrev pub Words : Type 0
Words = List (List ℕ)

-- a piece, where it is not empty
abbrev pub piece : List ℕ → Words
piece [] = []
piece (c ∷ cs) = (c ∷ cs) ∷ []

-- the lines, of which these bytes begin the first; the last may lack its newline
abbrev pub lines_from : List ℕ → List ℕ → Words
lines_from sofar [] = piece sofar
lines_from sofar (c ∷ cs) = if c == 10 then sofar ∷ lines_from [] cs else lines_from (sofar ++ c ∷ []) cs

-- spaces, tabs and commas separate words
abbrev pub is_gap : ℕ → Bool
is_gap c = (c == 32) || ((c == 9) || (c == 44))

-- a line up to its comment
abbrev pub told : List ℕ → List ℕ
told [] = []
told (c ∷ cs) = if c == 35 then [] else c ∷ told cs

-- the words, of which these bytes begin the first: the pieces between gaps, none of them empty
abbrev pub words_from : List ℕ → List ℕ → Words
words_from sofar [] = piece sofar
words_from sofar (c ∷ cs) = if is_gap c then piece sofar ++ words_from [] cs else words_from (sofar ++ c ∷ []) cs

-- a tab, or from 32 to 126
abbrev pub is_allowed : ℕ → Bool
is_allowed c = (c == 9) || (nat_le 32 c && nat_le c 126)

-- what a line says: its number, whether all its bytes are allowed, and its words
pub record TextLine : Type 0 where
  pub number : ℕ
  pub fair : Bool
  pub words : Words

abbrev pub line_of : ℕ → List ℕ → TextLine
line_of n bytes = record { number = n; fair = list_all is_allowed bytes; words = words_from [] (told bytes) }

-- lines with their numbers, from this one on
abbrev pub numbered : ℕ → Words → List TextLine
numbered n [] = []
numbered n (l ∷ ls) = line_of n l ∷ numbered (n + 1) ls

-- all lines of a text
abbrev pub text_lines : List ℕ → List TextLine
text_lines text = numbered 1 (lines_from [] text)
