use Rattle.std.proofs.Common.{◌≡◌, ◌↔◌, ◌⊎◌, ℕ, Some, List, Contains, subst}
use Rattle.std.specs.Int.{bit_at}
use Rattle.liveness.specs.Sets.{members}
use Rattle.point_walk.specs.Walks.{place_at}
use Rattle.point_walk.proofs.Slots.{places_more}
use Rattle.point_walk.proofs.seats.places_of.Goals as goal

pub registers-preserved : goal.registers-preserved
registers-preserved c = record {
  bits = places_more c.in-Some.register.0 c.registers.set c.place_set-set.result (members 128 c.take_least.new.set) (members 128 c.args.registers) c.args.places.now
      (subst (λ (ks : List ℕ). (x : ℕ) → ((bit_at c.registers.set x ≡ 1) ⊎ ((k : ℕ) × Contains ks k × (place_at c.args.places.now k ≡ Some x)))
      ↔ ((k : ℕ) × Contains (members 128 c.args.registers) k × (place_at c.args.places.now k ≡ Some x))) c.in-Some.ensures.1 c.registers.invariant.bits)
      c.place_set-set.ensures;
}
