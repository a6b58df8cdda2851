-- What lives on over an instruction.
use Rattle.std.specs.Prelude.{ℕ, ◌≡◌, ◌⊎◌, true, List, Some, slice_get}
use Rattle.micro_isa.specs.declared.program.Line.{Line}
use Rattle.micro_isa.specs.Columns.{switches_at}
use Rattle.liveness.specs.Liveness.{Writes, LiveIn, LiveOut}

-- another context may run after instruction i
abbrev pub SwitchesAt : List Line → ℕ → Type 0
SwitchesAt code i = (line : Line) × (slice_get code i ≡ Some line) × (switches_at line.instr ≡ true)

-- instruction i writes register k
abbrev pub WritesAt : List Line → ℕ → ℕ → Type 0
WritesAt code i k = (line : Line) × (slice_get code i ≡ Some line) × Writes line k

-- register k survives instruction i: live out, and not written by it
abbrev pub Stays : List Line → ℕ → ℕ → Type 0
Stays code i k = LiveOut code i k × (WritesAt code i k → ⊥)

-- register k has a value after instruction i: live out, or written by it
abbrev pub IsAfter : List Line → ℕ → ℕ → Type 0
IsAfter code i k = LiveOut code i k ⊎ WritesAt code i k

-- register k crosses at instruction i: it survives a switch, or is live at the entry
abbrev pub Crosses : List Line → ℕ → ℕ → Type 0
Crosses code i k = (SwitchesAt code i × Stays code i k) ⊎ ((i ≡ 0) × LiveIn code 0 k)
