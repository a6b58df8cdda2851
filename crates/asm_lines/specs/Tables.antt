-- Tables of names, numbered in the order of their first appearance.
use Rattle.std.specs.Prelude.{ℕ, ◌++◌, not, Bool, List, [], ◌∷◌, Option, Some, None, if◌then◌else◌, map, position, unwrap_or}
use Rattle.std.specs.Borrow.{Bor}
use Rattle.std.specs.List.{list_any}
use Rattle.std.specs.Str.{bytes_eq}
use Rattle.micro_isa.specs.Names.{name_test}
use Rattle.asm_lines.specs.Cutting.{Words}

-- words that stand in the text
abbrev pub words_seen : List (Bor (List ℕ)) → Words
words_seen words = map (λ w. w.now) words

abbrev pub knows : Words → List ℕ → Bool
knows names name = list_any (λ n. bytes_eq name n) names

-- the number of a name
abbrev pub place_of : Words → List ℕ → ℕ
place_of names name = unwrap_or (position (λ n. bytes_eq name n) names) 0

-- the names with this one, once
abbrev pub declare : Words → List ℕ → Words
declare names name = if knows names name then names else names ++ name ∷ []

-- one of these words is no name
abbrev pub misnamed : Words → Bool
misnamed words = list_any (λ w. not (name_test w)) words

-- the word that there may be
abbrev pub one : Option (List ℕ) → Words
one None = []
one (Some w) = w ∷ []
