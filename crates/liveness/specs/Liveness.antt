-- Live registers, by paths.
use Rattle.std.specs.Prelude.{ℕ, ◌≡◌, ◌⊎◌, List, [], ◌∷◌, Some, slice_get}
use Rattle.micro_isa.specs.declared.program.Line.{Line}
use Rattle.micro_isa.specs.Columns.{reads_in, written_by, next_of}
use Rattle.flow_graph.specs.Paths.{GoesTo, Edge}

-- the line reads register k
abbrev pub Reads : Line → ℕ → Type 0
Reads line k = ((reads_in line.instr).first ≡ Some (record { 0 = k })) ⊎ ((reads_in line.instr).second ≡ Some (record { 0 = k }))

-- the line writes register k
abbrev pub Writes : Line → ℕ → Type 0
Writes line k = written_by line.instr ≡ Some (record { 0 = k })

-- the instructions `i ∷ rest` are a path whose last one reads register k, and none before it writes k
abbrev pub LiveAlong : List Line → ℕ → ℕ → List ℕ → Type 0
LiveAlong code k i [] = (line : Line) × (slice_get code i ≡ Some line) × Reads line k
LiveAlong code k i (j ∷ rest) =
    (line : Line) × (slice_get code i ≡ Some line) × (Writes line k → ⊥) × GoesTo (next_of line.instr i) j × LiveAlong code k j rest

-- register k is live in at instruction i
abbrev pub LiveIn : List Line → ℕ → ℕ → Type 0
LiveIn code i k = (rest : List ℕ) × LiveAlong code k i rest

-- register k is live out at instruction i: live in at a successor
abbrev pub LiveOut : List Line → ℕ → ℕ → Type 0
LiveOut code i k = (j : ℕ) × Edge code i j × LiveIn code j k
