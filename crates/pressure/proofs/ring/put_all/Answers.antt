use Rattle.pressure.proofs.Ringing.{begun, ringed, target_in}
use Rattle.pressure.proofs.ring.put_all.Goals as goal

pub lines-init : goal.lines-init
lines-init c = begun _ _ _ _ c.requires.alone c.requires.nobody

pub lines-preserved : goal.lines-preserved
lines-preserved c =
    rw (c.put.ensures.own, c.put.ensures.target)
    (ringed _ _ _ _ _ _ c.requires.closed c.lines-test.true c.target_at-to.ensures c.lines.invariant)

pub put-requires-clause-there : goal.put-requires-clause-there
put-requires-clause-there c = target_in _ _ _ _ _ c.lines.invariant.own_each c.requires.closed c.target_at-to.ensures
