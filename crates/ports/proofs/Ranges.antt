-- The numbers that a ramp still gives.
use Rattle.std.proofs.Common.{◌≡◌, ◌<◌, ℕ, suc, ◌+◌, ◌-◌, ◌∷◌, arith, refl}
use Rattle.std.specs.List.{range_with_len}

-- the first of them, and the rest
pub range_first : (next count : ℕ) → next < count → range_with_len next (count - next) ≡ next ∷ range_with_len (next + 1) (count - (next + 1))
range_first next count h = let e : count - next ≡ suc (count - (next + 1)) = omega arith in rw e refl
