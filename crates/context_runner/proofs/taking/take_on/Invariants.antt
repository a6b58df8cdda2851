use Rattle.std.proofs.Common.{◌≡◌}
use Rattle.baton.specs.Passes.{IsOfBaton, IsIdle}
use Rattle.context_runner.specs.Sharing.{beginning}
use Rattle.context_runner.proofs.taking.take_on.Given as goal

abbrev pub invariant-loop : goal.invariant-loop
invariant-loop g l =
    (goal.iterator-loop g).can_next l.iterator' × (goal.iterator-loop g).is_finite l.iterator'
    × (IsOfBaton beginning l.baton.table.shared l.pass.seat × IsIdle l.pass.seat)
    × (l.pass.seat.me.0.seen ≡ l.initial.pass.seat.me.0.seen) × (l.pass.seat.me.0.mine ≡ l.initial.pass.seat.me.0.mine)
    × (l.pass.seat.me.0.number ≡ l.initial.pass.seat.me.0.number) × (l.pass.seat.me.0.looks ≡ l.initial.pass.seat.me.0.looks)
