-- First fit of registers that meet each other, as a relation.
use Rattle.std.specs.Prelude.{ℕ, ◌≡◌, ◌≢◌, ◌<◌, ◌≤◌, ◌⊎◌}

-- (`Meet` tells which registers are in use at once; a register that is there at all meets itself)

-- j gets its place before k: the crossing registers first, and each kind in increasing number
abbrev pub IsEarlier : (ℕ → Type 0) → ℕ → ℕ → Type 0
IsEarlier Cross j k = (Cross j × (Cross k → ⊥)) ⊎ (((Cross j × Cross k) ⊎ ((Cross j → ⊥) × (Cross k → ⊥))) × (j < k))

-- each register has the least place that no earlier one has which it meets
pub record IsFirstFit (Meet : ℕ → ℕ → Type 0) (Cross : ℕ → Type 0) (f : ℕ → ℕ) : Type 0 where
  pub apart : (j k : ℕ) → Meet j k → IsEarlier Cross j k → f j ≢ f k
  pub least : (k q : ℕ) → Meet k k → q < f k → (j : ℕ) × Meet j k × IsEarlier Cross j k × (f j ≡ q)

-- crossing registers have places below p, the others places below r
abbrev pub FitsIn : (ℕ → ℕ → Type 0) → (ℕ → Type 0) → (ℕ → ℕ) → ℕ → ℕ → Type 0
FitsIn Meet Cross f p r = (k : ℕ) → Meet k k → (Cross k → f k < p) × ((Cross k → ⊥) → f k < r)

-- a register has a place too great
abbrev pub RunsOut : (ℕ → ℕ → Type 0) → (ℕ → Type 0) → (ℕ → ℕ) → ℕ → ℕ → Type 0
RunsOut Meet Cross f p r = (k : ℕ) × Meet k k × ((Cross k × (p ≤ f k)) ⊎ ((Cross k → ⊥) × (r ≤ f k)))
