use Rattle.std.proofs.Common.{sym, subst}
use Rattle.std.specs.List.{All}
use Rattle.std.proofs.lemmas.List.Elements.{All-push}
use Rattle.pressure.specs.Pressures.{IsPart, IsPressureOf}
use Rattle.allocate.proofs.Zipping.{cover_push, one_longer}
use Rattle.allocate.proofs.analysis.pressures_of.Goals as goal

pub loop-c-preserved : goal.loop-c-preserved
loop-c-preserved c =
    let old = c.loop-c.parts in
    let new = c.push_pressure.new.parts in
    let part = c.pressure_at.result in (
      one_longer old new c.loop-c.c part c.in_ok-push_pressure.ensures c.loop-c.invariant.0,
      cover_push IsPressureOf c.args.programs.now old new c.loop-c.c part c.in_ok-push_pressure.ensures c.loop-c-test.true c.loop-c.invariant.0 c.loop-c.invariant.1 c.pressure_at.ensures.exact,
      subst (All IsPart) (sym c.in_ok-push_pressure.ensures) (All-push IsPart old part c.loop-c.invariant.2 c.pressure_at.ensures.part),
    )
