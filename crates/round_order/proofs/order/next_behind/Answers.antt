use Rattle.std.proofs.Common.{ap, ◌∙◌, ◌-◌, ◌+◌}
use Rattle.std.specs.Prelude.{find}
use Rattle.std.specs.List.{range_with_len}
use Rattle.semantics.specs.Core.{is_runnable}
use Rattle.round_order.proofs.Rounds.{next_found, next_missed}
use Rattle.round_order.proofs.order.next_behind.Goals as goal

pub returns-in-Some-clause-next : goal.returns-in-Some-clause-next
returns-in-Some-clause-next g c =
    next_found (is_runnable (g.I.Interpreter.config c.args.run.now).core) _ c.args.last c.in-Some.context (c.in-Some.ensures.found ∙ ap (λ n. find (is_runnable (g.I.Interpreter.config c.args.run.now).core) (range_with_len (c.args.last + 1) (n - (c.args.last + 1)))) c.contexts.ensures.number)

pub returns-in-None-clause-next : goal.returns-in-None-clause-next
returns-in-None-clause-next g c =
    c.first_runnable-in-None.ensures.found
    ∙ next_missed (is_runnable (g.I.Interpreter.config c.args.run.now).core) _ c.args.last (c.in-None.ensures.found ∙ ap (λ n. find (is_runnable (g.I.Interpreter.config c.args.run.now).core) (range_with_len (c.args.last + 1) (n - (c.args.last + 1)))) c.contexts.ensures.number)
