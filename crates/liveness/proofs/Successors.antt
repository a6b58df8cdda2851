-- What a flow of the code tells at an instruction.
use Rattle.std.proofs.Common.{◌≡◌, ℕ, List, Some, slice_get, refl}
use Rattle.std.specs.Prelude.{bit_or}
use Rattle.micro_isa.specs.declared.instr.Next.{Next}
use Rattle.micro_isa.specs.declared.program.Line.{Line}
use Rattle.micro_isa.specs.Columns.{next_of}
use Rattle.flow_graph.specs.declared.flow.Flow.{Flow}
use Rattle.flow_graph.specs.Flows.{successors_in, IsFlowOf}
use Rattle.liveness.specs.Sweeps.{at_next, IsOutSet}

pub is_out_set : (code : List Line) (flow : Flow) (i : ℕ) (next : Next) → IsFlowOf code flow → slice_get (successors_in flow) i ≡ Some next
    → (sets : List ℕ) → IsOutSet code sets i (bit_or (at_next sets next.fall) (at_next sets next.jump))
is_out_set code flow i next is_flow told sets = record {
  union = λ line is.
      let e = is_flow.successors.each i line is in
      let same : next ≡ next_of line.instr i = cc in
      rw same refl;
}
