-- Sets of registers as numbers.
use Rattle.std.proofs.Common.{◌≡◌, ℕ, ◌^◌, ◌<◌, ◌-◌, min, max, List, Option, Some, None, get_or, ap, sym, refl, ◌∙◌, ◌⊎◌, inl, inr, arith}
use Rattle.std.proofs.lemmas.Bool.{cases_eq}
use Rattle.std.proofs.lemmas.Nat.Bits.{bit_at_or, bit_at_and, bit_at_not, bit_at-zero, bit_at-lt, bit_at_set_same, bit_at_set_other}
use Rattle.std.specs.Prelude.{bit_and, bit_or}
use Rattle.std.specs.Int.{bit_at, bit_not, w128}
use Rattle.micro_isa.specs.declared.instr.Next.{Next}
use Rattle.micro_isa.specs.declared.program.Line.{Line}
use Rattle.micro_isa.specs.declared.program.VReg.{VReg}
use Rattle.micro_isa.specs.Columns.{reads_in, written_by}
use Rattle.flow_graph.specs.Paths.{GoesTo, IsSmall, HasSmallRegisters}
use Rattle.liveness.specs.Liveness.{Reads, Writes}
use Rattle.liveness.specs.Sweeps.{mask, at_next, out_of, in_of}

pub named : (r : Option VReg) (k : ℕ) → IsSmall r → bit_at (mask r) k ≡ 1 → r ≡ Some (record { 0 = k })
named None k _ one = absurd (omega (arith, bit_at-zero k))
named (Some register) k within one =
    elim (cases_eq k register.0) [
      | inl same ↦ let named_so : ℕ → Option VReg = λ n. Some (record { 0 = n }) in ap named_so (sym same)
      | inr other ↦ absurd (omega (arith, bit_at_set_other w128 0 register.0 within k other, bit_at-zero k))
    ]

pub masked : (r : Option VReg) (k : ℕ) → k < 128 → r ≡ Some (record { 0 = k }) → bit_at (mask r) k ≡ 1
masked r k within is = rw is (bit_at_set_same w128 0 k within)

pub mask_small : (r : Option VReg) → mask r < 2 ^ 128
mask_small None = omega arith
mask_small (Some register) = omega arith

at_place : (sets : List ℕ) (o : Option ℕ) (k : ℕ) → bit_at (at_next sets o) k ≡ 1
    → (j : ℕ) × (o ≡ Some j) × (bit_at (get_or sets j 0) k ≡ 1)
at_place sets None k one = absurd (omega (arith, bit_at-zero k))
at_place sets (Some j) k one = (j, refl, one)

at_there : (sets : List ℕ) (o : Option ℕ) (k j : ℕ) → o ≡ Some j → bit_at (get_or sets j 0) k ≡ 1 → bit_at (at_next sets o) k ≡ 1
at_there sets o k j is one = rw is one

-- a register of the union is one of a successor's set
pub out_from : (sets : List ℕ) (next : Next) (k : ℕ) → bit_at (out_of sets next) k ≡ 1
    → (j : ℕ) × GoesTo next j × (bit_at (get_or sets j 0) k ≡ 1)
out_from sets next k one =
    let either = bit_at_or (at_next sets next.fall) (at_next sets next.jump) k in
    elim (cases_eq (bit_at (at_next sets next.fall) k) 1) [
      | inl c ↦ let p = at_place sets next.fall k c in (p.0, inl p.1, p.2)
      | inr nc ↦
          let small = bit_at-lt (at_next sets next.fall) k in
          let d : bit_at (at_next sets next.jump) k ≡ 1 = omega arith in
          let p = at_place sets next.jump k d in (p.0, inr p.1, p.2)
    ]

pub out_there : (sets : List ℕ) (next : Next) (k j : ℕ) → GoesTo next j → bit_at (get_or sets j 0) k ≡ 1 → bit_at (out_of sets next) k ≡ 1
out_there sets next k j goes one =
    let either = bit_at_or (at_next sets next.fall) (at_next sets next.jump) k in
    let top = bit_at-lt (out_of sets next) k in
    elim goes [
      | inl e ↦ let m = at_there sets next.fall k j e one in omega arith
      | inr e ↦ let m = at_there sets next.jump k j e one in omega arith
    ]

-- the bits of what is live in
in_bits : (line : Line) (out k : ℕ) → k < 128
    → bit_at (in_of line out) k
    ≡ max (max (bit_at (mask (reads_in line.instr).first) k) (bit_at (mask (reads_in line.instr).second) k))
    (min (bit_at out k) (1 - bit_at (mask (written_by line.instr)) k))
in_bits line out k within =
    let first : ℕ = mask (reads_in line.instr).first in
    let second : ℕ = mask (reads_in line.instr).second in
    let write : ℕ = mask (written_by line.instr) in
    let small : write < 2 ^ 128 = mask_small (written_by line.instr) in
    let a = bit_at_or (bit_or first second) (bit_and out (bit_not w128 write)) k in
    let b = bit_at_or first second k in
    let c = bit_at_and out (bit_not w128 write) k in
    let e = bit_at_not w128 write k small within in
    a ∙ rw (b, c, e)

-- where a register that is live in comes from
pub in_from : (line : Line) (out k : ℕ) → k < 128 → HasSmallRegisters line → bit_at (in_of line out) k ≡ 1
    → Reads line k ⊎ ((Writes line k → ⊥) × (bit_at out k ≡ 1))
in_from line out k within fits one =
    let bits = in_bits line out k within in
    elim (cases_eq (bit_at (mask (reads_in line.instr).first) k) 1) [
      | inl a ↦ inl (inl (named (reads_in line.instr).first k fits.first a))
      | inr na ↦ elim (cases_eq (bit_at (mask (reads_in line.instr).second) k) 1) [
        | inl b ↦ inl (inr (named (reads_in line.instr).second k fits.second b))
        | inr nb ↦ inr (λ w. let m = masked (written_by line.instr) k within w in omega arith, omega arith)
      ]
    ]

pub in_read : (line : Line) (out k : ℕ) → k < 128 → Reads line k → bit_at (in_of line out) k ≡ 1
in_read line out k within reads =
    let bits = in_bits line out k within in
    let top = bit_at-lt (in_of line out) k in
    elim reads [
      | inl e ↦ let m = masked (reads_in line.instr).first k within e in omega arith
      | inr e ↦ let m = masked (reads_in line.instr).second k within e in omega arith
    ]

pub in_kept : (line : Line) (out k : ℕ) → k < 128 → HasSmallRegisters line → (Writes line k → ⊥) → bit_at out k ≡ 1 → bit_at (in_of line out) k ≡ 1
in_kept line out k within fits keeps one =
    let bits = in_bits line out k within in
    let top = bit_at-lt (in_of line out) k in
    elim (cases_eq (bit_at (mask (written_by line.instr)) k) 1) [
      | inl w ↦ absurd (keeps (named (written_by line.instr) k fits.written w))
      | inr nw ↦ omega arith
    ]
