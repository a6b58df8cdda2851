use Rattle.std.proofs.Common.{◌∙◌}
use Rattle.semantics.specs.Stretches.{ActiveContext}
use Rattle.run_state.specs.Running.{kind_by, context_at}
use Rattle.run_state.proofs.Segments.{goes_on, segment_is}
use Rattle.run_state.proofs.Running.{delivered_alike}
use Rattle.run_state.proofs.one_segment.segment.Goals as goal

pub returns-clause-goes_on : goal.returns-clause-goes_on
returns-clause-goes_on g c =
    let e = c.stretch-ended.result in
    goes_on c.args.core.now c.complete-done.new.self c.finish-end.new.self c.args.context e.steps c.steps_left-left.result e.why c.complete-done.ensures.core c.finish-end.ensures.core c.stretch-ended.ensures.spent c.stretch-ended.ensures.bounded c.steps_left-left.ensures.fits

pub returns-clause-segment : goal.returns-clause-segment
returns-clause-segment g c =
    let a = c.args in
    let e = c.stretch-ended.result in
    let place = a.place.now in
    let x : ActiveContext g.row.R.Denot g.V.Registers.Values = context_at place.at (g.V.Registers.values a.values.now) place.pending in
    segment_is (kind_by g.L.CodeLine.numbered g.V.Registers.reads g.V.Registers.writes) a.core.now c.complete-done.new.self c.finish-end.new.self a.context a.code.now x _ c.steps_left-left.result c.complete-done.result.received c.complete-done.result.sent _ e.steps e.why c.finish-end.result _ c.memory.ensures c.finish-end.ensures.end c.complete-done.ensures.gives c.complete-done.ensures.core
    (c.deliver-pending.ensures.delivered place.at ∙ delivered_alike (kind_by g.L.CodeLine.numbered g.V.Registers.reads g.V.Registers.writes) place.pending c.complete-done.result.received x)
    c.steps_left-left.ensures.left c.stretch-ended.ensures.ended c.finish-end.ensures.core
