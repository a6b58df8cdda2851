-- Verdicts on the lines of a text, in the kinds of faults of whatever language its lines have.
use Rattle.std.specs.Prelude.{ℕ, ◌≡◌, ◌+◌, ◌++◌, true, List, [], ◌∷◌, Option, Some, None, is_none, map}
use Rattle.std.specs.List.{list_all, range_with_len}

-- a line's number, and the first kind of its faults, if it has one
abbrev pub Verdict : Type 0 → Type 0
Verdict K = ℕ × Option K

-- a fault and the line that it stands on
pub record Found (K : Type 0) : Type 0 where
  pub line : ℕ
  pub kind : K

-- the fault of a line, or else what later lines have
abbrev pub at_or : {K : Type 0} → ℕ → Option K → Option (Found K) → Option (Found K)
at_or line None later = later
at_or line (Some k) later = Some (record { line = line; kind = k })

-- the first fault
abbrev pub first_fault : {K : Type 0} → List (Verdict K) → Option (Found K)
first_fault [] = None
first_fault (v ∷ vs) = at_or v.0 v.1 (first_fault vs)

-- the fault of earlier lines, or else that of later ones
abbrev pub or_else : {K : Type 0} → Option (Found K) → Option (Found K) → Option (Found K)
or_else None later = later
or_else (Some at) later = Some at

-- there is a verdict on each of so many lines, and on the one after the last, in their order
abbrev pub AreWhole : {K : Type 0} → ℕ → List (Verdict K) → Type 0
AreWhole count vs = map (λ v. v.0) vs ≡ range_with_len 1 (count + 1)

-- the fault on this line is of this kind, and no line before it has a fault
pub record IsFirst {K : Type 0} (vs : List (Verdict K)) (line : ℕ) (k : K) : Type 0 where
  pub earlier : List (Verdict K)
  pub later : List (Verdict K)
  pub parts : vs ≡ earlier ++ (line, Some k) ∷ later
  pub free : list_all (λ v. is_none v.1) earlier ≡ true
