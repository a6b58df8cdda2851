-- Lists and texts that are made of several others.
use Rattle.std.specs.Prelude.{ℕ, zero, suc, List, [], ◌∷◌, ◌++◌, decimal}
use Rattle.std.specs.List.{flat_map}

abbrev pub newline : List ℕ
newline = 10 ∷ []

-- a line of a word and a number
abbrev pub number_line : List ℕ → ℕ → List ℕ
number_line word n = word ++ decimal n ++ newline

-- each number, after a space
abbrev pub numbers : List ℕ → List ℕ
numbers ns = flat_map (λ n. 32 ∷ decimal n) ns

-- the lists of the numbers below n, in their order
abbrev pub in_order : ℕ → (ℕ → List ℕ) → List ℕ
in_order zero list = []
in_order (suc n) list = in_order n list ++ list n
