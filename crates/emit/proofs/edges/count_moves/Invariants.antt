use Rattle.std.proofs.Common.{◌≡◌, ◌+◌, ◌≤◌, length, drop}
use Rattle.std.specs.Prelude.{slice_index}
use Rattle.edge_moves.specs.MoveSteps.{moving}
use Rattle.emitted.specs.Edges.{pairs_from}
use Rattle.emit.proofs.edges.count_moves.Given as goal

abbrev pub invariant-loop-listed : goal.invariant-loop-listed
invariant-loop-listed l = record {
  counted : l.moves + length (moving (pairs_from (λ k. slice_index l.after k) (drop l.listed-index l.next))) ≡ length (moving (pairs_from (λ k. slice_index l.after k) l.next));
  few : l.moves ≤ l.listed-index;
}
