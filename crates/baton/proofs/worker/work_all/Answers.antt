use Rattle.std.proofs.Common.{subst, slice_index_or}
use mathlib.Core.List.{IsPrefix}
use Rattle.baton.proofs.worker.work_all.Goals as goal

pub returns-clause-later : goal.returns-clause-later
returns-clause-later g c i d lt =
    let e = (c.for_each_mut.ensures i d lt).1 in
    subst (λ p. IsPrefix p.seat.me.0.seen (slice_index_or c.for_each_mut.new.s i d).seat.me.0.seen) e.argument_is
    (subst (λ p. IsPrefix e.argument.now.seat.me.0.seen p.seat.me.0.seen) e.left e.call.2)
