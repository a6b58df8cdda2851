use Rattle.std.proofs.Common.{drop}
use Rattle.edge_moves.specs.MoveSteps.{moving}
use Rattle.edge_moves.specs.Tally.{Holds, left_of}
use Rattle.edge_moves.proofs.Passes.{Peeled}
use Rattle.edge_moves.proofs.taking.take_outside.Given as goal

abbrev pub invariant-loop-target : goal.invariant-loop-target
invariant-loop-target l = record {
  holds : Holds l.sources (left_of l.sources l.pairs);
  peeled : Peeled l.pairs (drop l.target-index l.pairs) (moving l.pairs) (left_of l.sources l.pairs);
}
