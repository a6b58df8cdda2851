use Rattle.std.proofs.Common.{arith}
use Rattle.baton.proofs.Sharing.{notes}
use Rattle.baton.proofs.baton.Baton.note.Goals as goal

pub split_seat-seat-requires : goal.split_seat-seat-requires
split_seat-seat-requires g c =
    (c.requires.of.0, rw c.args.self.now.shape.0 (omega arith), notes g.T.Storied.history g.T.Storied.origin _ _ _ _)
