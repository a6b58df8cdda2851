use Rattle.std.proofs.Common.{sym, ap, ◌∙◌, ◌+◌, arith}
use Rattle.semantics.specs.Stretches.{settled}
use Rattle.semantics.proofs.Stretching.{one_on, ends_on}
use Rattle.run_state.specs.Running.{kind_by, context_at}
use Rattle.run_state.proofs.Running.{change_made}
use Rattle.run_state.proofs.stretch.stretch.Goals as goal

pub steps-preserved : goal.steps-preserved
steps-preserved g c =
    let a = c.args in
    let s = c.steps in
    let i = s.invariant in
    let e = c.effect_at-change.result in
    let pending = a.place.pending in (
      c.settle-at-in-steps.ensures.held ∙ c.make.ensures.held ∙ i.0,
      omega arith,
      c.settle-at-in-steps.ensures.within,
      one_on (kind_by g.L.CodeLine.numbered g.V.Registers.reads g.V.Registers.writes) a.context a.memory.now a.code.now s.steps a.left (context_at s.at (g.V.Registers.values s.values) pending) _ e (omega arith) (c.effect_at-change.ensures.table pending) c.in_default.is
          (ap (settled (kind_by g.L.CodeLine.numbered g.V.Registers.reads g.V.Registers.writes) a.context a.memory.now a.code.now) (change_made (kind_by g.L.CodeLine.numbered g.V.Registers.reads g.V.Registers.writes) (g.V.Registers.values s.values) s.at e.next pending e.change ∙ ap (λ v. context_at e.next v pending) (sym c.make.ensures.written)) ∙ c.settle-at-in-steps.ensures.settled pending)
          ∙ i.3,
    )

pub returns-in-Some-clause-ended : goal.returns-in-Some-clause-ended
returns-in-Some-clause-ended g c =
    let a = c.args in
    let s = c.steps in
    let e = c.effect_at-change.result in
    let pending = a.place.pending in
    (λ j. record { state = context_at e.next (c.make.ensures.written j) c.in-Some.field-0.pending; steps = s.steps + 1; why = c.in-Some.field-0.why })
    ∙ (λ j. record { state = record { kept = record { at = e.next; pending = c.in-Some.field-0.pending }; values = (sym (change_made (kind_by g.L.CodeLine.numbered g.V.Registers.reads g.V.Registers.writes) (g.V.Registers.values s.values) s.at e.next pending e.change) j).values }; steps = s.steps + 1; why = c.in-Some.field-0.why })
    ∙ ends_on (kind_by g.L.CodeLine.numbered g.V.Registers.reads g.V.Registers.writes) a.context a.memory.now a.code.now s.steps a.left (context_at s.at (g.V.Registers.values s.values) pending) e c.in-Some.field-0 (omega arith) (c.effect_at-change.ensures.table pending) c.in-Some.is
    ∙ s.invariant.3
