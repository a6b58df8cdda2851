use Rattle.std.proofs.Common.{arith}
use Rattle.flow_graph.proofs.Flooding.{none_left, top_within, fall_within, jump_within, next_open, lighter, still_start, ended}
use Rattle.flow_graph.proofs.flood.flood.Goals as goal

pub bounds-successors-i : goal.bounds-successors-i
bounds-successors-i c = top_within _ _ _ _ _ _ c.in-Some.ensures.items c.pops.invariant.open_at

pub pops-preserved : goal.pops-preserved
pops-preserved c = record {
  open_at = next_open _ _ _ _ _ _ _ _ _ _ c.in-Some.ensures.items c.requires.within c.pops.invariant.open_at c.in_ok-mark.ensures.marks c.in_ok-mark.ensures.stack c.in_ok-mark-2.ensures.marks c.in_ok-mark-2.ensures.stack;
  start = still_start _ _ _ _ _ _ _ _ _ _ c.in-Some.ensures.items c.requires.within c.pops.invariant.open_at c.in_ok-mark.ensures.marks c.in_ok-mark.ensures.stack c.in_ok-mark-2.ensures.marks c.in_ok-mark-2.ensures.stack c.pops.invariant.start;
}

pub pops-smaller : goal.pops-smaller
pops-smaller c =
    lighter _ _ _ _ _ _ _ _ _ _ c.in-Some.ensures.items c.requires.within c.pops.invariant.open_at c.in_ok-mark.ensures.marks c.in_ok-mark.ensures.stack c.in_ok-mark-2.ensures.marks c.in_ok-mark-2.ensures.stack

pub returns : goal.returns
returns c =
    let some = c.in_default.ensures.variant.1 in
    let ok = c.pops.stack.ok in
    ended _ _ _ (none_left _ (λ more. some (omega arith))) c.pops.invariant.open_at c.pops.invariant.start

pub mark-requires : goal.mark-requires
mark-requires c = fall_within _ _ _ _ _ _ c.in-Some.ensures.items c.requires.within c.pops.invariant.open_at

pub mark-requires-in-Some : goal.mark-requires-in-Some
mark-requires-in-Some c =
    rw c.mark.auto.marks (jump_within _ _ _ _ _ _ c.in-Some.ensures.items c.requires.within c.pops.invariant.open_at)
