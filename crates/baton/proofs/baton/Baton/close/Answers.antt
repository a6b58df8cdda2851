use Rattle.std.proofs.Common.{arith, slice_index_or, subst}
use Rattle.baton.specs.Passes.{IsGathered}
use Rattle.baton.proofs.Lists.{prefix_then}
use Rattle.baton.proofs.baton.Baton.close.Goals as goal

pub returns-clause-seen : goal.returns-clause-seen
returns-clause-seen g c k d lt =
    let all = c.gather-pass.result.seat.me.0 in
    let is = subst (λ l. IsGathered (λ p. p.seat.me.0) l 0 all) c.into_vec.ensures c.gather-pass.ensures.all in
    prefix_then (slice_index_or c.args.passes k d).seat.me.0.seen all.seen (g.T.Storied.history c.end_with.result) (is.each k d (omega arith) lt).seen c.end_with.ensures.seen

pub returns-clause-stands : goal.returns-clause-stands
returns-clause-stands g c k d lt n x a =
    let all = c.gather-pass.result.seat.me.0 in
    let is = subst (λ l. IsGathered (λ p. p.seat.me.0) l 0 all) c.into_vec.ensures c.gather-pass.ensures.all in
    let r = (is.each k d (omega arith) lt).mine n x a in
    c.end_with.ensures.stands r.0 x r.1
