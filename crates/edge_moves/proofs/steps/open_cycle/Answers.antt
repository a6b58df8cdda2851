use Rattle.std.proofs.Common.{◌≡◌, length, arith}
use Rattle.edge_moves.proofs.Marks.{opened_sources, joined_sources}
use Rattle.edge_moves.proofs.steps.open_cycle.Goals as goal

pub returns-in_ok-push-in-Some-2-clause-sources : goal.returns-in_ok-push-in-Some-2-clause-sources
returns-in_ok-push-in-Some-2-clause-sources c =
    let r = c.requires in
    let long : c.args.left.now.len ≡ length c.args.left.now.items = let ok = c.args.left.now.ok in omega arith in
    opened_sources _ _ _ _ _ _ _ _ _ _ _ _ r.remains r.stuck long c.is_empty.ensures c.if-is_empty.false c.in-Some.is c.remove.ensures.value
    c.remove.ensures.by_index.2 c.rename.ensures c.take_out.ensures c.take_out-in-Some.ensures c.add.ensures r.sources

pub returns-in_ok-join-in-None-clause-sources : goal.returns-in_ok-join-in-None-clause-sources
returns-in_ok-join-in-None-clause-sources c =
    let r = c.requires in
    let long : c.args.left.now.len ≡ length c.args.left.now.items = let ok = c.args.left.now.ok in omega arith in
    joined_sources _ _ _ _ _ _ _ _ _ _ _ r.remains r.stuck long c.is_empty.ensures c.if-is_empty.false c.in-None.is c.remove.ensures.value
    c.remove.ensures.by_index.2 (rw c.as_slice.ensures.value at c.target_of-target.ensures) c.in_ok-join-in-None.ensures c.take_out-in-None.ensures
    c.take_out_if_last.ensures r.sources
