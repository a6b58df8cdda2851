-- A program has one pressure of each kind.
use Rattle.std.proofs.Common.{◌≡◌, ℕ, ◌≤◌, List, inl, inr, arith}
use Rattle.micro_isa.specs.declared.program.Line.{Line}
use Rattle.liveness.specs.Pressures.{IsPrivatePressure, IsTotalPressure}
use Rattle.pressure.specs.declared.pressure_of.Pressure.{Pressure}
use Rattle.pressure.specs.Pressures.{IsPressureOf}

both_ways : (a b : ℕ) → a ≤ b → b ≤ a → a ≡ b
both_ways a b le ge = omega arith

private_le : (code : List Line) (p q : ℕ) → IsPrivatePressure code p → IsPrivatePressure code q → p ≤ q
private_le code p q is other = elim is.reached [
  | inl entry ↦ other.entry p entry
  | inr stay ↦ other.stay stay.0 p stay.1 stay.2
]

total_le : (code : List Line) (r s : ℕ) → IsTotalPressure code r → IsTotalPressure code s → r ≤ s
total_le code r s is other =
    let at = is.reached in
    elim at.2 [
      | inl before ↦ other.before at.0 r at.1 before
      | inr after ↦ other.after at.0 r at.1 after
    ]

pub pressure_once : (code : List Line) (x y : Pressure) → IsPressureOf code x → IsPressureOf code y → x ≡ y
pressure_once code x y a b = λ i. record {
  private = both_ways x.private y.private (private_le code x.private y.private a.private b.private) (private_le code y.private x.private b.private a.private) i;
  all = both_ways x.all y.all (total_le code x.all y.all a.all b.all) (total_le code y.all x.all b.all a.all) i;
}
