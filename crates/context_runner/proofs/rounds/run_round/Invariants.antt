use Rattle.context_runner.specs.Moving.{MovedTo}
use Rattle.run_journal.specs.Turns.{to_come}
use Rattle.context_runner.proofs.rounds.run_round.Given as goal

abbrev pub invariant-moves : goal.invariant-moves
invariant-moves g l = MovedTo l.fn.run l.run l.fn.slots l.slots l.last

abbrev pub decreases-moves : goal.decreases-moves
decreases-moves g l = to_come l.run.engine.core l.run.idle
