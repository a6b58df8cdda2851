-- Lists made of pieces that lie behind each other, by the pieces' numbers.
use Rattle.std.specs.Prelude.{ℕ, zero, suc, ◌≡◌, ◌+◌, List, [], ◌∷◌, ◌++◌, Some, slice_get}

-- the first n pieces, behind each other
abbrev pub pieces : {A : Type 0} → (ℕ → List A) → ℕ → List A
pieces f zero = []
pieces f (suc n) = pieces f n ++ f n

-- the sum of the first n numbers
abbrev pub total : (ℕ → ℕ) → ℕ → ℕ
total f zero = 0
total f (suc n) = total f n + f n

-- the list has these items from this place on
abbrev pub HasAt : {A : Type 0} → List A → ℕ → List A → Type 0
HasAt xs at [] = Unit {0}
HasAt xs at (y ∷ ys) = (slice_get xs at ≡ Some y) × HasAt xs (at + 1) ys
