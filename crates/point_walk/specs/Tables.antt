-- Tables of places, as the walk keeps them.
use Rattle.std.specs.Prelude.{ℕ, ◌≡◌, ◌<◌, ◌↔◌, List, Option, Some, None, length}
use Rattle.std.specs.List.{Contains}
use Rattle.std.specs.Int.{bit_at}
use Rattle.micro_isa.specs.declared.limits.TheConstants.{MOST_FILE, MOST_REGISTERS}
use Rattle.point_walk.specs.Walks.{Table, place_at}

-- a slot for each register, and places of the file
pub record IsTable (table : Table) : Type 0 where
  pub size : length table ≡ MOST_REGISTERS
  pub low : (k x : ℕ) → place_at table k ≡ Some x → x < MOST_FILE

-- the bits of the number are the places that registers have
pub record IsTaken (table : Table) (taken : ℕ) : Type 0 where
  pub is_table : IsTable table
  pub bits : (x : ℕ) → (bit_at taken x ≡ 1) ↔ ((k : ℕ) × (place_at table k ≡ Some x))

-- a wish, if it is below p
abbrev pub IsBelow : ℕ → Option ℕ → Option ℕ → Type 0
IsBelow p wish None = (x : ℕ) → wish ≡ Some x → x < p → ⊥
IsBelow p wish (Some x) = (wish ≡ Some x) × (x < p)

-- a wish, if the set has it not
abbrev pub IsUntaken : ℕ → Option ℕ → Option ℕ → Type 0
IsUntaken taken wish None = (x : ℕ) → wish ≡ Some x → bit_at taken x ≡ 1
IsUntaken taken wish (Some x) = (wish ≡ Some x) × (bit_at taken x ≡ 0)

-- the bits of the number are the places that registers of the list have
pub record ArePlacesOf (registers : List ℕ) (table : Table) (set : ℕ) : Type 0 where
  pub bits : (x : ℕ) → (bit_at set x ≡ 1) ↔ ((k : ℕ) × Contains registers k × (place_at table k ≡ Some x))
