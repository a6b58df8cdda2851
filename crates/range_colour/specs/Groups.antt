-- Groups of instructions, and which registers meet in one.
use Rattle.std.specs.Prelude.{ℕ, ◌≡◌, ◌<◌, ◌⊎◌, List, length, slice_index}
use Rattle.micro_isa.specs.declared.program.Line.{Line}
use Rattle.liveness.specs.Liveness.{LiveIn}
use Rattle.liveness.specs.Surviving.{IsAfter, Crosses}

-- all instructions
abbrev pub Every : ℕ → Type 0
Every i = Unit {0}

-- the instructions of a list
abbrev pub Among : List ℕ → ℕ → Type 0
Among list i = (at : ℕ) × (at < length list) × (slice_index list at ≡ i)

-- at instruction i both are in use: both live in, or both with a value after it
abbrev pub InUse : List Line → ℕ → ℕ → ℕ → Type 0
InUse code i j k = (LiveIn code i j × LiveIn code i k) ⊎ (IsAfter code i j × IsAfter code i k)

-- both are in use at an instruction of the group
abbrev pub MeetsIn : List Line → (ℕ → Type 0) → ℕ → ℕ → Type 0
MeetsIn code Group j k = (i : ℕ) × (i < length code) × Group i × InUse code i j k

-- the register crosses at an instruction of the group
abbrev pub CrossesIn : List Line → (ℕ → Type 0) → ℕ → Type 0
CrossesIn code Group k = (i : ℕ) × (i < length code) × Group i × Crosses code i k
