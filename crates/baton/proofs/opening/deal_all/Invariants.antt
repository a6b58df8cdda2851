use Rattle.std.proofs.Common.{◌≡◌, ◌<◌, ◌≤◌, ◌+◌, ◌-◌, ℕ, [], length, slice_index_or, vec_capacity}
use Rattle.baton.specs.Views.{opened_view}
use Rattle.baton.specs.Passes.{IsOfBaton, IsIdle}
use Rattle.baton.proofs.opening.deal_all.Given as goal

abbrev pub invariant-deals : goal.invariant-deals
invariant-deals g l =
    IsOfBaton g.T.Storied.origin l.baton.table.shared l.last.seat
    × (l.last.seat.me ≡ (opened_view (length l.passes.items + 1) l.callers l.initial.last.seat.me.0.seen (g.T.Storied.origin l.baton.table.shared.key.value.value), []))
    × (length l.passes.items < l.callers) × (l.callers ≤ vec_capacity l.passes)
    × ((i : ℕ) (d : _) → i < length l.passes.items → (IsOfBaton g.T.Storied.origin l.baton.table.shared (slice_index_or l.passes.items i d).seat × IsIdle (slice_index_or l.passes.items i d).seat)
    × ((slice_index_or l.passes.items i d).seat.me ≡ (opened_view (i + 1) l.callers l.initial.last.seat.me.0.seen (g.T.Storied.origin l.baton.table.shared.key.value.value), [])))

abbrev pub decreases-deals : goal.decreases-deals
decreases-deals g l = l.callers - length l.passes.items
