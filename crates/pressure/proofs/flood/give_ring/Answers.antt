use Rattle.pressure.proofs.Ringing.{below_at, below_on}
use Rattle.pressure.proofs.Flooding.{ring_given}
use Rattle.pressure.proofs.flood.give_ring.Goals as goal

pub give-requires : goal.give-requires
give-requires c = below_at _ _ _ _ _ c.after_on_own.ensures c.requires.low

pub give-requires-2 : goal.give-requires-2
give-requires-2 c = below_on _ _ _ _ _ _ c.after_on_target.ensures c.give.auto.numbers c.requires.low

pub returns : goal.returns
returns c =
    let rings = c.args.rings.now in
    ring_given rings.own rings.target _ _ _ _ _ _ c.args.i _ _ _ c.after_on_own.ensures c.after_on_target.ensures (below_at _ _ _ _ _ c.after_on_own.ensures c.requires.low)
    (below_on _ _ _ _ _ _ c.after_on_target.ensures c.give.auto.numbers c.requires.low) c.in_ok-give.ensures.numbers c.in_ok-give.ensures.waiting
    c.in_ok-give-2.ensures.numbers c.in_ok-give-2.ensures.waiting
