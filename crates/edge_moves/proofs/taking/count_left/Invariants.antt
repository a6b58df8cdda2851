use Rattle.std.proofs.Common.{◌≡◌, ℕ, ◌+◌, ◌<◌, ◌≤◌, drop, length, true, false}
use Rattle.edge_moves.specs.ParallelMove.{is_target}
use Rattle.edge_moves.specs.Tally.{left_of}
use Rattle.edge_moves.proofs.taking.count_left.Given as goal

abbrev pub invariant-loop-target : goal.invariant-loop-target
invariant-loop-target l =
    (l.left + length (left_of l.sources (drop l.target-index l.pairs)) ≡ length (left_of l.sources l.pairs))
    × (l.left ≤ l.target-index)
    × ((q : ℕ) → is_target (drop l.target-index l.pairs) q ≡ false → is_target l.pairs q ≡ true → q < 256)
