-- One visit of a sweep over the sets of all instructions.
use Rattle.std.specs.Prelude.{ℕ, ◌≡◌, ◌*◌, ◌%◌, ◌^◌, ◌<◌, ◌≤◌, Bool, true, sum, List, Option, Some, None, length, slice_get, slice_index, bit_and, bit_or}
use Rattle.std.specs.Int.{bit_at, bit_not, w128}
use Rattle.micro_isa.specs.declared.instr.Next.{Next}
use Rattle.micro_isa.specs.declared.program.Line.{Line}
use Rattle.micro_isa.specs.declared.program.VReg.{VReg}
use Rattle.micro_isa.specs.Columns.{reads_in, written_by, next_of}
use Rattle.flow_graph.specs.declared.flow.Flow.{Flow}
use Rattle.flow_graph.specs.Paths.{IsClosedCode}
use Rattle.flow_graph.specs.Flows.{IsFlowOf}
use Rattle.liveness.specs.Liveness.{LiveIn}
use Rattle.liveness.specs.Sets.{IsSetOf}

-- the set of a register alone
abbrev pub mask : Option VReg → ℕ
mask None = 0
mask (Some register) = 1 * 2 ^ register.0 % 2 ^ 128

-- the set of a successor
abbrev pub at_next : List ℕ → Option ℕ → ℕ
at_next sets None = 0
at_next sets (Some j) = slice_index sets j

-- the union of the successors' sets
abbrev pub out_of : List ℕ → Next → ℕ
out_of sets next = bit_or (at_next sets next.fall) (at_next sets next.jump)

-- what is live in at a line, given what is live out
abbrev pub in_of : Line → ℕ → ℕ
in_of line out =
    bit_or (bit_or (mask (reads_in line.instr).first) (mask (reads_in line.instr).second)) (bit_and out (bit_not w128 (mask (written_by line.instr))))

-- the union of the sets of instruction i's successors
pub record IsOutSet (code : List Line) (sets : List ℕ) (i out : ℕ) : Type 0 where
  pub union : (line : Line) → slice_get code i ≡ Some line → out ≡ out_of sets (next_of line.instr i)

-- each instruction's union
pub record AreOutSets (code : List Line) (sets outs : List ℕ) : Type 0 where
  pub one_each : length outs ≡ length code
  pub each : (i : ℕ) → i < length code → IsOutSet code sets i (slice_index outs i)

-- a visit of instruction i would change nothing
pub record IsClosedAt (code : List Line) (sets : List ℕ) (i : ℕ) : Type 0 where
  pub closed : (line : Line) → slice_get code i ≡ Some line
      → bit_or (slice_index sets i) (in_of line (out_of sets (next_of line.instr i))) ≡ slice_index sets i

-- no visit would change anything
pub record IsClosed (code : List Line) (sets : List ℕ) : Type 0 where
  pub each : (i : ℕ) → i < length code → IsClosedAt code sets i

-- each register of a set is live in
pub record IsSound (code : List Line) (sets : List ℕ) : Type 0 where
  pub path : (i k : ℕ) → k < 128 → bit_at (slice_index sets i) k ≡ 1 → LiveIn code i k

-- sweeps go on from here: over closed code with its flow, one set an instruction, each register of it live in
pub record IsSweep (code : List Line) (flow : Flow) (sets : List ℕ) : Type 0 where
  pub closed : IsClosedCode code
  pub is_flow : IsFlowOf code flow
  pub one_each : length sets ≡ length code
  pub sound : IsSound code sets

-- no set is smaller than at first, and one is greater if that is told
pub record HasGrown (first sets : List ℕ) (told : Bool) : Type 0 where
  pub kept : sum first ≤ sum sets
  pub more : told ≡ true → sum first < sum sets

-- the sets are those of the registers that are live in
pub record IsLive (code : List Line) (sets : List ℕ) : Type 0 where
  pub one_each : length sets ≡ length code
  pub each : (i : ℕ) → i < length code → IsSetOf (LiveIn code i) (slice_index sets i)
