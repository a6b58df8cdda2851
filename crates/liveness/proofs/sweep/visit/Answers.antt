use Rattle.std.proofs.Common.{length-set, ◌∙◌, arith}
use Rattle.liveness.proofs.Visits.{small_at, grown_sound, closed_here, visit_grows}
use Rattle.liveness.proofs.sweep.visit.Goals as goal

pub live_before-requires : goal.live_before-requires
live_before-requires c = small_at _ c.requires.sweep.closed _ _ c.requires.here

pub returns-then-new-old-clause-closed : goal.returns-then-new-old-clause-closed
returns-then-new-old-clause-closed c = λ _. closed_here _ _ _ _ _ _ c.live_before.ensures c.live_after.ensures c.if-new-old.true

pub returns-clause-sweep : goal.returns-clause-sweep
returns-clause-sweep c =
    let before = c.requires.sweep in record {
      closed = before.closed;
      is_flow = before.is_flow;
      one_each = length-set _ _ _ ∙ before.one_each;
      sound = grown_sound _ _ _ _ _ _ c.live_before.ensures c.live_after.ensures c.requires.here before.closed before.one_each before.sound;
    }

pub returns-clause-grown : goal.returns-clause-grown
returns-clause-grown c = λ _.
    let as_many = c.requires.sweep.one_each in
    visit_grows c.args.sets.now c.args.i c.live_before.result (omega arith) c.if-new-old.false
