-- Orders by several keys, of which the first that differs decides.
use Rattle.std.specs.Prelude.{ℕ, ◌≡◌, ◌<◌, ◌⊎◌, List, [], ◌∷◌}

-- a is less than b; or they are equal, and the rest decides
abbrev pub ByKey : ℕ → ℕ → Type 0 → Type 0
ByKey a b rest = (a < b) ⊎ ((a ≡ b) × rest)

-- of two lists of one length the first is less at the first place where they differ, or they are equal
abbrev pub IsNoGreater : List ℕ → List ℕ → Type 0
IsNoGreater [] ys = Unit {0}
IsNoGreater (x ∷ xs) [] = ⊥
IsNoGreater (x ∷ xs) (y ∷ ys) = ByKey x y (IsNoGreater xs ys)
