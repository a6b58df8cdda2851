use Rattle.std.proofs.Common.{◌≡◌, ℕ, drop, false}
use Rattle.std.specs.Prelude.{◌||◌, slice_index_or}
use Rattle.edge_moves.specs.MoveSteps.{is_source}
use Rattle.edge_moves.proofs.remaining.sources_of.Given as goal

abbrev pub invariant-loop-source : goal.invariant-loop-source
invariant-loop-source l = (q : ℕ) → (slice_index_or l.sources q false || is_source (drop l.source-index l.left) q) ≡ is_source l.left q
