-- Sets of registers as increasing lists.
use Rattle.std.proofs.Common.{◌≡◌, ◌≢◌, ◌==◌, eqb, ℕ, zero, suc, ◌/◌, ◌%◌, ◌^◌, ◌<◌, ◌+◌, ◌*◌, ◌-◌, Bool, true, false, cond, [], ◌∷◌, ◌++◌, length, get_or, ap, sym, subst, refl, ◌∙◌, inl, inr, arith, bit_and, bit_xor}
use Rattle.std.specs.Int.{bit_at, w64, w128, trailing_zeros}
use Rattle.std.proofs.lemmas.Bool.{cases_eq, cases_lt}
use Rattle.std.proofs.lemmas.List.{get_or_append_left, length-append}
use Rattle.std.proofs.lemmas.List.Elements.{Contains-get_or}
use Rattle.std.proofs.lemmas.Nat.Bits.{shr_and_one, bit_at-lt, bit_at-trailing_zeros, bit_at-suc, bit_at_and, bit_at_xor, bit_at_lowest, bit_at-zero, bit_at_set_same, bit_at_set_other, bit_at_cat_low}
use Rattle.std.proofs.Math.Seq.{get_or-append_seam}
use Rattle.liveness.specs.Sets.{IsSetOf, Lists, members}
use Rattle.liveness.proofs.Sizes.{member_set, set_member, below_width}

pub has_bit : (n k : ℕ) → eqb (bit_and (n / 2 ^ k) 1) 1 ≡ (bit_at n k == 1)
has_bit n k = ap (λ b. eqb b 1) (shr_and_one n k)

-- the members rise

members_rising : (w n a b : ℕ) → a < b → b < length (members w n) → get_or (members w n) a 0 < get_or (members w n) b 0
unfolding members
members_rising zero n a b less inside = absurd (omega arith)
members_rising (suc w) n a b less inside = by (members_rising w n) (bit_at n w == 1) inside
  where
    by : ((c d : ℕ) → c < d → d < length (members w n) → get_or (members w n) c 0 < get_or (members w n) d 0)
        → (t : Bool) → b < length (cond t (members w n ++ w ∷ []) (members w n))
        → get_or (cond t (members w n ++ w ∷ []) (members w n)) a 0 < get_or (cond t (members w n ++ w ∷ []) (members w n)) b 0
    by rises true within =
        let long = length-append (members w n) (w ∷ []) in
        let a_in : a < length (members w n) = omega arith in
        let first = get_or_append_left (members w n) (w ∷ []) 0 a a_in in
        elim (cases_eq b (length (members w n))) [
          | inl last ↦
              let seam = get_or-append_seam (members w n) w [] 0 in
              let low = (member_set w n (get_or (members w n) a 0) (Contains-get_or (members w n) a 0 a_in)).0 in
              rw (last, seam, first) low
          | inr other ↦
              let b_in : b < length (members w n) = omega arith in
              let second = get_or_append_left (members w n) (w ∷ []) 0 b b_in in
              rw (first, second) (rises a b less b_in)
        ]
    by rises false within = rises a b less within

-- a set's members list what it stands for
pub listed : (S : ℕ → Type 0) (set : ℕ) → set < 2 ^ 128 → IsSetOf S set → Lists S (members 128 set)
listed S set small is = record {
  exact = λ k. (
    λ has. (is.exact k).0 (member_set 128 set k has).1,
    λ holds. let one = (is.exact k).1 holds in set_member 128 set k (below_width set k small one) one,
  );
  rising = members_rising 128 set;
}

-- the least one, and the others
no_members : (w n : ℕ) → ((i : ℕ) → i < w → bit_at n i ≡ 0) → members w n ≡ []
unfolding members
no_members zero n none = refl
no_members (suc w) n none =
    let on = no_members w n (λ i less. none i (omega arith)) in
    let here = none w (omega arith) in
    rw here on

least_first : (w n m t : ℕ) → t < w → bit_at n t ≡ 1 → ((i : ℕ) → i < t → bit_at n i ≡ 0) → bit_at m t ≡ 0
    → ((i : ℕ) → i < w → i ≢ t → bit_at m i ≡ bit_at n i) → members w n ≡ t ∷ members w m
unfolding members
least_first zero n m t less one low none same = absurd (omega arith)
least_first (suc w) n m t less one low none same =
    elim (cases_eq t w) [
      | inl last ↦
          let none_n = no_members w n (λ i under. low i (omega arith)) in
          let none_m = no_members w m (λ i under. same i (omega arith) (omega arith) ∙ low i (omega arith)) in
          let top : bit_at n w ≡ 1 = subst (λ j. bit_at n j ≡ 1) last one in
          let off : bit_at m w ≡ 0 = subst (λ j. bit_at m j ≡ 0) last none in
          rw (top, off, none_n, none_m) (ap (λ j. j ∷ []) (sym last))
      | inr other ↦
          let rest = least_first w n m t (omega arith) one low none (λ i under. same i (omega arith)) in
          let top = same w (omega arith) (λ e. other (sym e)) in
          let push : (b : Bool) → cond b ((t ∷ members w m) ++ w ∷ []) (t ∷ members w m) ≡ t ∷ cond b (members w m ++ w ∷ []) (members w m) =
          elim [ true ↦ refl | false ↦ refl ] in
          rw (top, rest) (push (bit_at n w == 1))
    ]

-- one less: the lowest 1 is gone, and all that stands above it is as it was

same_half : (n m i : ℕ) → m / 2 ≡ n / 2 → 0 < i → bit_at m i ≡ bit_at n i
same_half n m zero half pos = absurd (omega arith)
same_half n m (suc i) half pos = bit_at-suc m i ∙ ap (λ k. bit_at k i) half ∙ sym (bit_at-suc n i)

half_less : (n m t i : ℕ) → m / 2 ≡ n / 2 - 1 → ((j : ℕ) → t < j → bit_at (n / 2 - 1) j ≡ bit_at (n / 2) j) → suc t < i → bit_at m i ≡ bit_at n i
half_less n m t zero half above less = absurd (omega arith)
half_less n m t (suc i) half above less = bit_at-suc m i ∙ ap (λ k. bit_at k i) half ∙ above i (omega arith) ∙ sym (bit_at-suc n i)

one_less : (t n : ℕ) → 0 < n → bit_at n t ≡ 1 → ((i : ℕ) → i < t → bit_at n i ≡ 0) → (bit_at (n - 1) t ≡ 0) × ((i : ℕ) → t < i → bit_at (n - 1) i ≡ bit_at n i)
one_less zero n some one low =
    let odd = bit_at_lowest n in
    let even = bit_at_lowest (n - 1) in
    (omega arith, λ i above. same_half n (n - 1) i (omega arith) above)
one_less (suc t) n some one low =
    let even = bit_at_lowest n in
    let first = low 0 (omega arith) in
    let half : (n - 1) / 2 ≡ n / 2 - 1 = omega arith in
    let rest = one_less t (n / 2) (omega arith) (sym (bit_at-suc n t) ∙ one) (λ i less. sym (bit_at-suc n i) ∙ low (suc i) (omega arith)) in
    (bit_at-suc (n - 1) t ∙ ap (λ k. bit_at k t) half ∙ rest.0, λ i above. half_less n (n - 1) t i half rest.1 above)

pub takes_least : (n : ℕ) → 0 < n → n < 2 ^ 128 → members 128 n ≡ trailing_zeros w128 n ∷ members 128 (bit_and n (n - 1))
takes_least n some small =
    let t = bit_at-trailing_zeros w128 n some small in
    let k = trailing_zeros w128 n in
    let less = one_less k n some t.1 t.2 in
    let there = bit_at_and n (n - 1) k in
    let gone = less.0 in
    least_first 128 n (bit_and n (n - 1)) k t.0 t.1 t.2 (omega arith)
    (λ i within other.
    let here = bit_at_and n (n - 1) i in
    elim (cases_lt i k) [
      | inl below ↦ let none = t.2 i below in omega arith
      | inr from ↦ let same = less.1 i (omega arith) in omega arith
    ])

-- the same by the low 64 bits, where one of them is set
low_bit : (n i : ℕ) → i < 64 → bit_at (n % 2 ^ 64) i ≡ bit_at n i
low_bit n i low =
    let whole : n / 2 ^ 64 * 2 ^ 64 + n % 2 ^ 64 ≡ n = omega arith in
    sym (bit_at_cat_low (n / 2 ^ 64) 64 (n % 2 ^ 64) i low) ∙ ap (λ m. bit_at m i) whole

pub takes_low : (n : ℕ) → 0 < n % 2 ^ 64 → let k = trailing_zeros w64 (n % 2 ^ 64) in
    (k < 64) × (members 128 n ≡ k ∷ members 128 (bit_xor n (1 * 2 ^ k % 2 ^ 64)))
takes_low n some =
    let t = bit_at-trailing_zeros w64 (n % 2 ^ 64) some (omega arith) in
    let k = trailing_zeros w64 (n % 2 ^ 64) in
    let m = 1 * 2 ^ k % 2 ^ 64 in
    let one : bit_at n k ≡ 1 = sym (low_bit n k t.0) ∙ t.1 in
    let none : (i : ℕ) → i < k → bit_at n i ≡ 0 = λ i below. sym (low_bit n i (omega (arith, t.0))) ∙ t.2 i below in
    let there : bit_at m k ≡ 1 = bit_at_set_same w64 0 k t.0 in
    let both = bit_at_xor n m k in (
      t.0,
      least_first 128 n (bit_xor n m) k (omega (arith, t.0)) one none (omega arith)
          (λ i within other.
          let each = bit_at_xor n m i in
          let alone : bit_at m i ≡ bit_at 0 i = bit_at_set_other w64 0 k t.0 i other in
          let zero = bit_at-zero i in
          let bit = bit_at-lt n i in
          omega arith),
    )

pub takes_none : members 128 0 ≡ []
unfolding members
takes_none = refl
