use Rattle.std.proofs.Common.{◌<◌}
use mathlib.Core.List.{IsPrefix}
use Rattle.baton.specs.Passes.{IsOfBaton, IsIdle}
use Rattle.context_runner.specs.declared.threads.TheConstants.{MOST_WAITS}
use Rattle.context_runner.specs.Sharing.{beginning}
use Rattle.context_runner.proofs.threads.make_turns.Given as goal

abbrev pub invariant-loop : goal.invariant-loop
invariant-loop g l =
    (goal.iterator-loop g).can_next l.iterator' × (goal.iterator-loop g).is_finite l.iterator'
    × (IsOfBaton beginning l.baton.table.shared l.pass.seat × IsIdle l.pass.seat)
    × IsPrefix l.initial.pass.seat.me.0.seen l.pass.seat.me.0.seen
    × (l.waits < MOST_WAITS)
