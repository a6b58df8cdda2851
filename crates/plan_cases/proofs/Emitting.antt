-- One plan has room in a register of its own and one that is shared.
use Rattle.std.proofs.Common.{◌≡◌, ℕ, zero, suc, ◌+◌, ◌≤◌, [], ◌∷◌, length, sum, Some, sym, subst, arith}
use Rattle.std.specs.Prelude.{slice_get}
use Rattle.std.proofs.lemmas.List.Sums.{sum_by-cons}
use Rattle.std.proofs.lemmas.Option.{same_Some}
use Rattle.micro_isa.specs.declared.program.Program.{Program}
use Rattle.micro_isa.specs.declared.program.Bundle.{Bundle}
use Rattle.plan.specs.declared.row.Plan.{Plan}
use Rattle.plan.specs.ValidPlans.{IsValidPlan}
use Rattle.emitted.specs.Emitted.{ArePlans, PlansFit, size_of}

pub one_plan : (b : Bundle) (plan : Plan) → length b.programs ≡ 1 → ((p : Program) → slice_get b.programs 0 ≡ Some p → IsValidPlan p.code plan) → ArePlans b (plan ∷ [])
one_plan b plan one valid = record { one_each = sym one; valid = by }
  where
    by : (c : ℕ) (p : Program) (found : Plan) → slice_get b.programs c ≡ Some p → slice_get (plan ∷ []) c ≡ Some found → IsValidPlan p.code found
    by zero p found is there = subst (IsValidPlan p.code) (same_Some plan found there) (valid p is)
    by (suc c) p found is there = absurd (cc)

pub one_room : (b : Bundle) (plan : Plan) (cost : ℕ) → length b.programs ≡ 1 → 2 ≤ b.file → plan.p ≤ 1 → plan.r ≤ 2
    → PlansFit b (plan ∷ []) (record { private = 1 ∷ []; shared = 1; cost = cost })
one_room b plan cost one large few all = record {
  one_each = sym one;
  each = by;
  file = let whole = sum_by-cons (λ (k : ℕ). k) 1 [] in omega arith;
}
  where
    by : (c : ℕ) (found : Plan) → slice_get (plan ∷ []) c ≡ Some found → (found.p ≤ size_of (1 ∷ []) c) × (found.r ≤ size_of (1 ∷ []) c + 1)
    by zero found there = subst (λ (x : Plan). (x.p ≤ 1) × (x.r ≤ 2)) (same_Some plan found there) (few, all)
    by (suc c) found there = absurd (cc)
