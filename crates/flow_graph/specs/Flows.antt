-- What a flow tells of its program.
use Rattle.std.specs.Prelude.{ℕ, ◌≡◌, ◌<◌, ◌↔◌, Bool, true, false, List, length, slice_index_or}
use Rattle.micro_isa.specs.declared.instr.Next.{Next}
use Rattle.micro_isa.specs.declared.program.Line.{Line}
use Rattle.flow_graph.specs.declared.flow.Flow.{Flow}
use Rattle.flow_graph.specs.Paths.{Reaches, AreSuccessors, AreWithin}

-- the successors of each instruction
abbrev pub successors_in : Flow → List Next
successors_in flow = flow.successors

-- the marks of the instructions that are reached
abbrev pub marks_in : Flow → List Bool
marks_in flow = flow.marks

-- the flow is of this code: its successors are the instructions' own, and its marks stand where a path from instruction 0 leads
pub record IsFlowOf (code : List Line) (flow : Flow) : Type 0 where
  pub successors : AreSuccessors code (successors_in flow)
  pub within : AreWithin (successors_in flow)
  pub one_each : length (marks_in flow) ≡ length code
  pub reached : (i : ℕ) → i < length code → (slice_index_or (marks_in flow) i false ≡ true) ↔ Reaches code 0 i
