use Rattle.std.proofs.Common.{◌∙◌, arith}
use Rattle.flow_graph.proofs.Flooding.{none_left}
use Rattle.pressure.proofs.Flooding.{starts, both_rings, top_below, can_visit, ended, falls_low, jumps_low}
use Rattle.pressure.proofs.flood.flood.Goals as goal

pub visits-init : goal.visits-init
visits-init c =
    starts _ _ _ _ _ _ _ c.new-waiting.ensures.items c.in_ok-give.ensures.numbers c.in_ok-give.ensures.waiting c.requires.here c.requires.none c.requires.unused

pub visits-preserved : goal.visits-preserved
visits-preserved c =
    (both_rings _ _ _ _ _ _ _ _ _ _ _ _ _ c.requires.unused c.in-Some.ensures.items c.visits.invariant c.in_ok-give_ring.ensures c.in_ok-give_ring-2.ensures).0

pub visits-smaller : goal.visits-smaller
visits-smaller c =
    (both_rings _ _ _ _ _ _ _ _ _ _ _ _ _ c.requires.unused c.in-Some.ensures.items c.visits.invariant c.in_ok-give_ring.ensures c.in_ok-give_ring-2.ensures).1

pub give_ring-requires : goal.give_ring-requires
give_ring-requires c =
    can_visit _ _ _ _ (top_below _ _ _ _ _ _ _ _ c.in-Some.ensures.items c.visits.invariant) c.requires.fall_own c.requires.fall_target
    (falls_low _ c.args.jumps.now _ _ c.requires.low c.visits.invariant.one_each)

pub give_ring-requires-in-Some : goal.give_ring-requires-in-Some
give_ring-requires-in-Some c =
    can_visit _ _ _ _ (top_below _ _ _ _ _ _ _ _ c.in-Some.ensures.items c.visits.invariant) c.requires.jump_own c.requires.jump_target
    (jumps_low c.args.falls.now _ _ _ c.requires.low (c.give_ring.auto.numbers ∙ c.visits.invariant.one_each))

pub returns : goal.returns
returns c =
    let some = c.in_default.ensures.variant.1 in
    let ok = c.visits.waiting.ok in
    ended _ _ _ _ _ _ (none_left _ (λ more. some (omega arith))) c.visits.invariant
