use Rattle.std.proofs.Common.{sym, ap, ◌∙◌, subst, drop, length}
use Rattle.semantics.specs.Stretches.{uncounted}
use Rattle.run_state.specs.Running.{kind_by, context_at, CanRunOne}
use Rattle.run_state.proofs.Running.{after_last, at_counted, at_stop, goes_on, jumps}
use Rattle.run_state.proofs.stretch.run_glue.Goals as goal

pub returns-then-counted-clause-reached : goal.returns-then-counted-clause-reached
returns-then-counted-clause-reached g c = λ jump pending.
    let a = c.args in
    let s = c.lines in
    sym (s.invariant.2 jump pending) ∙ at_counted (kind_by g.L.CodeLine.numbered g.V.Registers.reads g.V.Registers.writes) a.context a.memory.now jump a.code.now s.at (context_at s.at (g.V.Registers.values s.values) pending) c.in-Some.line (sym c.line_at.ensures ∙ c.in-Some.is) (sym c.counted.ensures ∙ c.if-counted.true)

pub line_effect-does-requires-clause-can : goal.line_effect-does-requires-clause-can
line_effect-does-requires-clause-can g c =
    subst (λ holds. CanRunOne holds (length c.args.code.now) (g.L.CodeLine.numbered c.in-Some.line).instr) (sym c.lines.invariant.0)
    (c.requires.runs.each c.lines.at c.in-Some.line (sym c.line_at.ensures ∙ c.in-Some.is))

pub returns-then-is_some-clause-reached : goal.returns-then-is_some-clause-reached
returns-then-is_some-clause-reached g c = λ jump pending.
    let a = c.args in
    let s = c.lines in
    sym (s.invariant.2 jump pending) ∙ at_stop (kind_by g.L.CodeLine.numbered g.V.Registers.reads g.V.Registers.writes) a.context a.memory.now jump a.code.now s.at (context_at s.at (g.V.Registers.values s.values) pending) c.in-Some.line c.line_effect-does.result (sym c.line_at.ensures ∙ c.in-Some.is) (sym c.counted.ensures ∙ c.if-counted.false) (c.line_effect-does.ensures.table pending) (sym c.is_some.ensures ∙ c.if-is_some.true)

pub returns-then-does-at-clause-reached : goal.returns-then-does-at-clause-reached
returns-then-does-at-clause-reached g c = λ jump pending.
    let a = c.args in
    let s = c.lines in
    let e = c.line_effect-does.result in
    sym (s.invariant.2 jump pending)
    ∙ jumps (kind_by g.L.CodeLine.numbered g.V.Registers.reads g.V.Registers.writes) a.context a.memory.now jump a.code.now s.at (g.V.Registers.values s.values) pending c.in-Some.line e (sym c.line_at.ensures ∙ c.in-Some.is) (sym c.counted.ensures ∙ c.if-counted.false) (c.line_effect-does.ensures.table pending) (sym c.is_some.ensures ∙ c.if-is_some.false) c.if-does-at.true
    ∙ ap (λ v. jump (context_at e.next v pending)) (sym c.make.ensures.written)

pub lines-preserved : goal.lines-preserved
lines-preserved g c =
    let a = c.args in
    let s = c.lines in
    let e = c.line_effect-does.result in (
      c.make.ensures.held ∙ s.invariant.0,
      c.line_effect-does.ensures.stays.next,
      λ jump pending.
          ap (λ v. uncounted (kind_by g.L.CodeLine.numbered g.V.Registers.reads g.V.Registers.writes) a.context a.memory.now jump (drop e.next a.code.now) (context_at e.next v pending)) c.make.ensures.written
          ∙ sym (goes_on (kind_by g.L.CodeLine.numbered g.V.Registers.reads g.V.Registers.writes) a.context a.memory.now jump a.code.now s.at (g.V.Registers.values s.values) pending c.in-Some.line e (sym c.line_at.ensures ∙ c.in-Some.is) (sym c.counted.ensures ∙ c.if-counted.false) (c.line_effect-does.ensures.table pending) (sym c.is_some.ensures ∙ c.if-is_some.false) c.if-does-at.false)
          ∙ s.invariant.2 jump pending,
    )

pub returns-clause-reached : goal.returns-clause-reached
returns-clause-reached g c = λ jump pending.
    let a = c.args in
    let s = c.lines in
    sym (s.invariant.2 jump pending) ∙ after_last (kind_by g.L.CodeLine.numbered g.V.Registers.reads g.V.Registers.writes) a.context a.memory.now jump a.code.now s.at (context_at s.at (g.V.Registers.values s.values) pending) (sym c.line_at.ensures ∙ c.in_default.is)
