-- A text parted at its first separator.
use Rattle.std.specs.Prelude.{ℕ, ◌+◌, ◌==◌, List, take, drop, Option, option_map, position}

-- what stands before the first separator and behind it, if there is one
abbrev pub cut : ℕ → List ℕ → Option (List ℕ × List ℕ)
cut separator text = option_map (λ i. (take i text, drop (i + 1) text)) (position (λ c. c == separator) text)
