use Rattle.std.proofs.Common.{◌<◌, subst, arith}
use Rattle.baton.proofs.Sharing.{deals}
use Rattle.baton.proofs.baton.Baton.deal.Goals as goal

pub split_seat-seat-requires : goal.split_seat-seat-requires
split_seat-seat-requires g c =
    let v = c.args.pass.now.seat.me.0 in
    (c.requires.of.0, rw c.args.self.now.shape.0 (omega arith), deals g.T.Storied.history g.T.Storied.origin _ _ _ v (subst (λ n. v.number < n) c.requires.of.1 c.requires.more))
