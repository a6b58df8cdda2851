-- Sets of registers as bits.
use Rattle.std.proofs.Common.{◌≡◌, ◌≢◌, ℕ, ◌-◌, ◌*◌, ◌%◌, ◌^◌, ◌<◌, ◌⊎◌, ◌↔◌, sym, ap, subst, ◌∙◌, inl, inr, arith, bit_and, bit_or}
use Rattle.std.specs.Int.{bit_at, bit_not, trailing_zeros, w128}
use Rattle.std.proofs.lemmas.Bool.{cases_eq, cases_lt}
use Rattle.std.proofs.lemmas.Nat.{and_le_l, leading_length}
use Rattle.std.proofs.lemmas.Nat.Bits.{bit_at_and, bit_at_or, bit_at_not, bit_at-lt, bit_at-zero, bit_at-trailing_zeros, bit_at_above, bit_at_set_same, bit_at_set_other}
use Rattle.std.specs.Int.Count.{count_leading_zeros}
use Rattle.liveness.proofs.Sizes.{below_width}
use Rattle.range_colour.specs.Settling.{In}

pub apart_bits : (a b j : ℕ) → bit_and a b ≡ 0 → In a j → In b j → ⊥
apart_bits a b j none one two =
    let e = bit_at_and a b j in
    let z : bit_at (bit_and a b) j ≡ 0 = ap (λ (n : ℕ). bit_at n j) none ∙ bit_at-zero j in
    omega arith

pub both_bits : (a b j : ℕ) → In (bit_and a b) j → In a j × In b j
both_bits a b j both =
    let e = bit_at_and a b j in let x = bit_at-lt a j in let y = bit_at-lt b j in (omega arith, omega arith)

pub common_bit : (a b : ℕ) → a < 2 ^ 128 → bit_and a b ≢ 0 → (j : ℕ) × In a j × In b j
common_bit a b small some =
    let le = and_le_l a b in
    let t = bit_at-trailing_zeros w128 (bit_and a b) (omega arith) (omega arith) in
    let both = both_bits a b (trailing_zeros w128 (bit_and a b)) t.1 in
    (trailing_zeros w128 (bit_and a b), both.0, both.1)

-- a register of a set is outside another, or of it too
pub outside_or_in : (set last j : ℕ) → set < 2 ^ 128 → last < 2 ^ 128 → In set j → In (bit_and set (bit_not w128 last)) j ⊎ In last j
outside_or_in set last j small small_last one =
    let inside = below_width set j small one in
    elim (cases_eq (bit_at last j) 1) [
      | inl yet ↦ inr yet
      | inr other ↦ inl (
          let low = bit_at-lt last j in
          let flipped = bit_at_not w128 last j small_last inside in
          let both = bit_at_and set (bit_not w128 last) j in
          omega arith)
    ]

-- nothing of a set is outside another
pub part_of : (set last j : ℕ) → set < 2 ^ 128 → last < 2 ^ 128 → bit_and set (bit_not w128 last) ≡ 0 → In set j → In last j
part_of set last j small small_last none one =
    elim (outside_or_in set last j small small_last one) [
      | inl other ↦ absurd (let z = bit_at-zero j in let is = subst (λ n. In n j) none other in omega arith)
      | inr yet ↦ yet
    ]

pub or_bits : (a b j : ℕ) → In (bit_or a b) j ↔ (In a j ⊎ In b j)
or_bits a b j =
    let e = bit_at_or a b j in
    let x = bit_at-lt a j in
    let y = bit_at-lt b j in (
      λ one. elim (cases_eq (bit_at a j) 1) [ inl yet ↦ inl yet | inr other ↦ inr (omega arith) ],
      λ some. elim some [ inl one ↦ omega arith | inr one ↦ omega arith ],
    )

pub set_bits : (n k j : ℕ) → k < 128 → In (bit_or n (1 * 2 ^ k % 2 ^ 128)) j ↔ (In n j ⊎ (j ≡ k))
set_bits n k j small =
    elim (cases_eq j k) [
      | inl same ↦ (λ one. inr same, λ some. subst (λ i. In (bit_or n (1 * 2 ^ k % 2 ^ 128)) i) (sym same) (bit_at_set_same w128 n k small))
      | inr other ↦ (
          let e = bit_at_set_other w128 n k small j other in (
            λ one. inl (omega arith),
            λ some. elim some [ inl one ↦ omega arith | inr same ↦ absurd (other same) ],
          ))
    ]

pub alone_bit : (k j : ℕ) → k < 128 → In (1 * 2 ^ k % 2 ^ 128) j ↔ (j ≡ k)
alone_bit k j small =
    elim (cases_eq j k) [
      | inl same ↦ (λ one. same, λ is. subst (In (1 * 2 ^ k % 2 ^ 128)) (sym same) (bit_at_set_same w128 0 k small))
      | inr other ↦ (λ one. absurd (omega (arith, bit_at_set_other w128 0 k small j other, bit_at-zero j)), λ same. absurd (other same))
    ]

pub below_leading : (set k : ℕ) → set < 2 ^ 128 → In set k → k < 128 - count_leading_zeros 128 set
below_leading set k small one =
    let l = leading_length 128 set small in
    let m = l.0 in
    let sum = l.1 in
    elim (cases_lt k m) [
      | inl less ↦ omega arith
      | inr more ↦ absurd (let z = bit_at_above set m k l.2 (omega arith) in omega arith)
    ]
