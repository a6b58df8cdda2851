use Rattle.std.proofs.Common.{◌≡◌, ◌↔◌, ◌⊎◌, ℕ, Some, length, Contains}
use Rattle.std.specs.Int.{bit_at}
use Rattle.liveness.specs.Sets.{members}
use Rattle.point_walk.specs.Walks.{place_at}
use Rattle.point_walk.proofs.seats.places_of.Given as goal

abbrev pub invariant-registers : goal.invariant-registers
invariant-registers l = record {
  bits : (x : ℕ) → ((bit_at l.set x ≡ 1) ⊎ ((k : ℕ) × Contains (members 128 l.rest) k × (place_at l.places k ≡ Some x)))
      ↔ ((k : ℕ) × Contains (members 128 l.registers) k × (place_at l.places k ≡ Some x));
}

abbrev pub decreases-registers : goal.decreases-registers
decreases-registers l = length (members 128 l.rest)
