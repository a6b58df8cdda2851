use Rattle.std.proofs.Common.{◌≡◌, ◌++◌, ◌-◌, length}
use Rattle.edge_moves.specs.MoveSteps.{steps_from, move_steps}
use Rattle.edge_moves.specs.Remaining.{Remains, AreSources}
use Rattle.edge_moves.proofs.steps.steps_of.Given as goal

abbrev pub invariant-loop : goal.invariant-loop
invariant-loop l = record {
  done : l.steps.items ++ steps_from l.free (length l.pairs - l.counter) l.left.items ≡ move_steps l.pairs l.free;
  remains : Remains l.free l.left.items;
  sources : AreSources l.left.items l.sources;
}
