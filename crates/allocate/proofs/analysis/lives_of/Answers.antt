use Rattle.liveness.specs.Lives.{IsLiveOf}
use Rattle.allocate.proofs.Zipping.{cover_push, one_longer}
use Rattle.allocate.proofs.analysis.lives_of.Goals as goal

pub loop-c-preserved : goal.loop-c-preserved
loop-c-preserved c =
    let old = c.loop-c.lives in
    let new = c.push_live.new.lives in
    let live = c.in_ok-live.live in (
      one_longer old new c.loop-c.c live c.in_ok-push_live.ensures c.loop-c.invariant.0,
      cover_push IsLiveOf c.args.programs.now old new c.loop-c.c live c.in_ok-push_live.ensures c.loop-c-test.true c.loop-c.invariant.0 c.loop-c.invariant.1 c.in_ok-live.ensures,
    )
