use Rattle.std.proofs.Common.{◌≡◌, ℕ, drop, false}
use Rattle.std.specs.Prelude.{◌||◌, slice_index_or}
use Rattle.edge_moves.specs.MoveSteps.{is_source}
use Rattle.edge_moves.specs.ParallelMove.{is_target}
use Rattle.emit.proofs.edges.named_places.Given as goal

abbrev pub invariant-loop-source : goal.invariant-loop-source
invariant-loop-source l =
    (q : ℕ) → (slice_index_or l.named q false || (is_source (drop l.source-index l.pairs) q || is_target (drop l.source-index l.pairs) q)) ≡ (is_source l.pairs q || is_target l.pairs q)
