-- Edges and paths of a program's instructions.
use Rattle.std.specs.Prelude.{ℕ, ◌≡◌, ◌<◌, ◌≤◌, ◌⊎◌, List, [], ◌∷◌, Option, Some, None, length, slice_get, ⊤}
use Rattle.micro_isa.specs.declared.limits.TheConstants.{MOST_INSTRUCTIONS, MOST_REGISTERS}
use Rattle.micro_isa.specs.declared.instr.Next.{Next}
use Rattle.micro_isa.specs.declared.program.Line.{Line}
use Rattle.micro_isa.specs.declared.program.VReg.{VReg}
use Rattle.micro_isa.specs.Columns.{reads_in, written_by, next_of}

-- j is one of these successors
abbrev pub GoesTo : Next → ℕ → Type 0
GoesTo next j = (next.fall ≡ Some j) ⊎ (next.jump ≡ Some j)

-- instruction j is a successor of instruction i
abbrev pub Edge : List Line → ℕ → ℕ → Type 0
Edge code i j = (line : Line) × (slice_get code i ≡ Some line) × GoesTo (next_of line.instr i) j

-- by edges of one kind the way goes from i over the places of the list, and ends at j
abbrev pub Walk : (ℕ → ℕ → Type 0) → ℕ → List ℕ → ℕ → Type 0
Walk edge i [] j = i ≡ j
Walk edge i (h ∷ rest) j = edge i h × Walk edge h rest j

-- a path leads from instruction i to instruction j
abbrev pub Reaches : List Line → ℕ → ℕ → Type 0
Reaches code i j = (rest : List ℕ) × Walk (Edge code) i rest j

-- the register, if there is one, is one of a context's
abbrev pub IsSmall : Option VReg → Type 0
IsSmall None = ⊤
IsSmall (Some register) = register.0 < MOST_REGISTERS

-- the registers of a line are among a context's
pub record HasSmallRegisters (line : Line) : Type 0 where
  pub first : IsSmall (reads_in line.instr).first
  pub second : IsSmall (reads_in line.instr).second
  pub written : IsSmall (written_by line.instr)

-- code that the analyses take: as many instructions and registers as a context may have, each successor an instruction
pub record IsClosedCode (code : List Line) : Type 0 where
  pub some : 0 < length code
  pub few : length code ≤ MOST_INSTRUCTIONS
  pub registers : (i : ℕ) (line : Line) → slice_get code i ≡ Some line → HasSmallRegisters line
  pub closed : (i j : ℕ) → Edge code i j → j < length code

-- the list has the successors of each instruction
pub record AreSuccessors (code : List Line) (successors : List Next) : Type 0 where
  pub one_each : length successors ≡ length code
  pub each : (i : ℕ) (line : Line) → slice_get code i ≡ Some line → slice_get successors i ≡ Some (next_of line.instr i)

-- the instruction, if there is one, is below n
abbrev pub Below : Option ℕ → ℕ → Type 0
Below None n = ⊤
Below (Some k) n = k < n

-- each successor is a place of the list
pub record AreWithin (successors : List Next) : Type 0 where
  pub fall : (i : ℕ) (next : Next) → slice_get successors i ≡ Some next → Below next.fall (length successors)
  pub jump : (i : ℕ) (next : Next) → slice_get successors i ≡ Some next → Below next.jump (length successors)
