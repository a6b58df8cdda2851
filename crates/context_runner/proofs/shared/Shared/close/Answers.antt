use Rattle.std.proofs.Common.{subst, sym, slice_index_or}
use mathlib.Core.List.{IsPrefix}
use Rattle.context_runner.proofs.shared.Shared.close.Goals as goal

pub returns-clause-seen : goal.returns-clause-seen
returns-clause-seen g c k d lt =
    subst (λ r. IsPrefix (slice_index_or c.args.passes k d).seat.me.0.seen r.entries) (sym c.close-2.ensures.run) (c.close.ensures.seen k d lt)
