use Rattle.std.proofs.Common.{sym, ◌∙◌}
use Rattle.run_state.specs.Running.{kind_by, context_at}
use Rattle.run_state.proofs.Running.{after_last, at_counted}
use Rattle.run_state.proofs.stretch.run_uncounted.Goals as goal

pub returns-then-counted-clause-reached : goal.returns-then-counted-clause-reached
returns-then-counted-clause-reached g c = λ jump pending.
    let a = c.args in
    at_counted (kind_by g.L.CodeLine.numbered g.V.Registers.reads g.V.Registers.writes) a.context a.memory.now jump a.code.now a.at (context_at a.at (g.V.Registers.values a.values.now) pending) c.in-Some.line (sym c.line_at.ensures ∙ c.in-Some.is) (sym c.counted.ensures ∙ c.if-counted.true)

pub returns-in-None-clause-reached : goal.returns-in-None-clause-reached
returns-in-None-clause-reached g c = λ jump pending.
    let a = c.args in
    after_last (kind_by g.L.CodeLine.numbered g.V.Registers.reads g.V.Registers.writes) a.context a.memory.now jump a.code.now a.at (context_at a.at (g.V.Registers.values a.values.now) pending) (sym c.line_at.ensures ∙ c.in-None.is)
