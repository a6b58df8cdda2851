use Rattle.std.proofs.Common.{◌≡◌, ◌<◌, ℕ, Some, length, slice_get}
use Rattle.micro_isa.specs.declared.program.Line.{Line}
use Rattle.micro_isa.specs.Columns.{next_of}
use Rattle.flow_graph.proofs.flow.successor_list.Given as goal

abbrev pub invariant-lines : goal.invariant-lines
invariant-lines l = record {
  as_many : length l.list ≡ l.i;
  each : (k : ℕ) (line : Line) → k < l.i → slice_get l.code k ≡ Some line → slice_get l.list k ≡ Some (next_of line.instr k);
}
