use Rattle.std.proofs.Common.{◌≡◌, ◌+◌, ◌≤◌, None, drop, length}
use Rattle.edge_moves.specs.MoveSteps.{first_free}
use Rattle.edge_moves.specs.Tally.{Holds, left_of, openings}
use Rattle.edge_moves.proofs.taking.take_cycles.Given as goal

abbrev pub invariant-loop-pair : goal.invariant-loop-pair
invariant-loop-pair l = record {
  holds : Holds l.sources (left_of l.sources l.pairs);
  closed : first_free (left_of l.sources l.pairs) (left_of l.sources l.pairs) ≡ None;
  later : left_of l.sources (drop l.pair-index l.pairs) ≡ left_of l.sources l.pairs;
  number : l.cycles + openings (length (left_of l.sources l.pairs)) (left_of l.sources l.pairs) ≡ openings (length (left_of l.initial.sources l.pairs)) (left_of l.initial.sources l.pairs);
  few : l.cycles ≤ l.pair-index;
}
