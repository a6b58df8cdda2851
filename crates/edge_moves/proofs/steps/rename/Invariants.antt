use Rattle.std.proofs.Common.{◌≡◌, ◌++◌, drop, take}
use Rattle.edge_moves.specs.MoveSteps.{renamed}
use Rattle.edge_moves.proofs.steps.rename.Given as goal

abbrev pub invariant-loop-pair : goal.invariant-loop-pair
invariant-loop-pair l = take l.pair-index l.pair-items ++ renamed l.old.0 l.new (drop l.pair-index l.pair-items) ≡ renamed l.old.0 l.new l.initial.pair-items
