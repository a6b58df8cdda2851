use Rattle.std.proofs.Common.{◌≡◌, ◌++◌, ◌∷◌, [], length, take, All}
use Rattle.baton.specs.Passes.{IsOfBaton, IsIdle, IsGathered}
use Rattle.baton.proofs.baton.Baton.join_all.Given as goal

abbrev pub invariant-joins : goal.invariant-joins
invariant-joins g l =
    (IsOfBaton g.T.Storied.origin l.self.table.shared l.last.seat × IsIdle l.last.seat)
    × All (λ p. IsOfBaton g.T.Storied.origin l.self.table.shared p.seat × IsIdle p.seat) l.others.items
    × (l.others.items ≡ take (length l.others.items) (l.initial.others.items ++ l.initial.last ∷ []))
    × IsGathered (λ p. p.seat.me.0) (l.initial.others.items ++ l.initial.last ∷ []) (length l.others.items) l.last.seat.me.0

abbrev pub decreases-joins : goal.decreases-joins
decreases-joins g l = length l.others.items
