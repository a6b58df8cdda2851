use Rattle.std.proofs.Common.{◌≡◌, ◌-◌}
use Rattle.std.specs.Prelude.{find}
use Rattle.std.specs.List.{range_with_len}
use Rattle.semantics.specs.Core.{is_runnable}
use Rattle.round_order.proofs.order.first_runnable.Given as goal

abbrev pub invariant-contexts : goal.invariant-contexts
invariant-contexts g l =
    find (is_runnable (g.I.Interpreter.config l.run).core) (range_with_len l.context (l.to - l.context)) ≡ find (is_runnable (g.I.Interpreter.config l.run).core) (range_with_len l.from (l.to - l.from))
