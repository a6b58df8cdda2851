use Rattle.std.proofs.Common.{◌≡◌}
use Rattle.round_order.specs.Journals.{IsOpened}
use Rattle.round_order.proofs.opening.unplug_all.Given as goal

abbrev pub invariant-channels : goal.invariant-channels
invariant-channels g l =
    (g.I.Interpreter.rules l.run ≡ g.I.Interpreter.rules l.fn.run)
    × IsOpened (g.I.Interpreter.rules l.fn.run) (g.I.Interpreter.config l.fn.run) l.channel (g.I.Interpreter.config l.run) l.entries.items
