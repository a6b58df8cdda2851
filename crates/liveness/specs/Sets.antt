-- Sets of registers.
use Rattle.std.specs.Prelude.{ℕ, zero, suc, ◌≡◌, ◌<◌, ◌↔◌, ◌==◌, cond, List, [], ◌∷◌, ◌++◌, Option, Some, None, length, nat_eq, slice_index}
use Rattle.std.specs.Int.{bit_at}
use Rattle.std.specs.List.{Contains, IsDistinct}
use Rattle.micro_isa.specs.declared.program.VReg.{VReg}

-- the bits of the number stand for exactly the registers with the property
pub record IsSetOf (S : ℕ → Type 0) (set : ℕ) : Type 0 where
  pub exact : (k : ℕ) → (bit_at set k ≡ 1) ↔ S k

-- exactly n registers have the property: a list without repetition names them
abbrev pub HasSize : (ℕ → Type 0) → ℕ → Type 0
HasSize S n = (xs : List ℕ) × IsDistinct nat_eq xs × ((k : ℕ) → Contains xs k ↔ S k) × (length xs ≡ n)

-- the list has exactly the numbers with the property, in increasing order
pub record Lists (S : ℕ → Type 0) (xs : List ℕ) : Type 0 where
  pub exact : (k : ℕ) → Contains xs k ↔ S k
  pub rising : (a b : ℕ) → a < b → b < length xs → slice_index xs a < slice_index xs b

-- the registers of a set that are below a bound, in increasing order
unfoldable pub members : ℕ → ℕ → List ℕ
members zero set = []
members (suc k) set = cond (bit_at set k == 1) (members k set ++ k ∷ []) (members k set)

-- the least register was taken out of a set, or there was none
abbrev pub Takes : ℕ → Option VReg → ℕ → Type 0
Takes set None rest = members 128 set ≡ []
Takes set (Some register) rest = (register.0 < 128) × (members 128 set ≡ register.0 ∷ members 128 rest)
