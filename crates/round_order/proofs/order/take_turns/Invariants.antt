use Rattle.std.proofs.Common.{◌≡◌, ◌-◌, suc}
use Rattle.std.specs.Prelude.{if◌then◌else◌}
use Rattle.round_order.specs.Journals.{IsRunSoFar}
use Rattle.round_order.proofs.order.take_turns.Given as goal

abbrev pub invariant-turns : goal.invariant-turns
invariant-turns g l =
    (g.I.Interpreter.rules l.run ≡ g.I.Interpreter.rules l.fn.run)
    × IsRunSoFar (g.I.Interpreter.rules l.fn.run) (g.I.Interpreter.config l.fn.run) (g.I.Interpreter.config l.run) l.fn.entries.items l.entries.items l.last

abbrev pub decreases-turns : goal.decreases-turns
decreases-turns g l =
    let core = (g.I.Interpreter.config l.run).core in
    if core.over then 0 else suc (core.world.bound - core.steps)
