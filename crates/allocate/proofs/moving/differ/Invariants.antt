use Rattle.std.proofs.Common.{ℕ, Contains, length}
use Rattle.liveness.specs.Sets.{members}
use Rattle.allocate.proofs.moving.differ.Given as goal

abbrev pub invariant-registers : goal.invariant-registers
invariant-registers l = (k : ℕ) → Contains (members 128 l.rest) k → Contains (members 128 l.set) k

abbrev pub decreases-registers : goal.decreases-registers
decreases-registers l = length (members 128 l.rest)
