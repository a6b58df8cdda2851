-- Sizes of sets of registers.
use Rattle.std.proofs.Common.{◌≡◌, ◌==◌, ℕ, zero, suc, ◌+◌, ◌/◌, ◌%◌, ◌^◌, ◌<◌, ◌≤◌, Bool, true, false, cond, [], ◌∷◌, ◌++◌, length, ap, sym, subst, refl, ◌∙◌, ◌⊎◌, inl, inr, Contains, arith}
use Rattle.std.specs.Prelude.{count_ones, bit_and, bit_or, nat_eq}
use Rattle.std.specs.Int.{bit_at, bit_not, w128}
use Rattle.std.specs.Cmp.{nat_eq_equiv, unsigned_Decides}
use Rattle.std.specs.List.{IsDistinct, list_any}
use Rattle.std.proofs.lemmas.Bool.{eqb-true, eq-eqb, cases_eq}
use Rattle.std.proofs.lemmas.Bool.Decides.{leb_tells}
use Rattle.std.proofs.lemmas.List.{length-append}
use Rattle.std.proofs.lemmas.List.Elements.{Contains-append_left, Contains-push, Contains-push_cases}
use Rattle.std.proofs.lemmas.Map.Keys.{IsDistinct-push, IsDistinct-from_apart}
use Rattle.std.proofs.lemmas.Map.Made.{is_member-Decides, length-le_from_is_member}
use Rattle.std.proofs.lemmas.Nat.Bits.{bit_at_lowest, bit_at-suc, bit_at-lt, bit_at_or, bit_at_and, bit_at_not, bit_at_above}
use lib.Count.{ones_step}
use Rattle.liveness.specs.Sets.{IsSetOf, HasSize, members}

-- how many bits below k are set
unfoldable pub size_below : ℕ → ℕ → ℕ
size_below zero n = 0
size_below (suc k) n = size_below k n + bit_at n k

by_low : (k n : ℕ) → size_below (suc k) n ≡ n % 2 + size_below k (n / 2)
unfolding size_below lib.Count.ones
by_low zero n = let l = bit_at_lowest n in omega arith
by_low (suc k) n = let on = by_low k n in let b = bit_at-suc n k in omega arith

pub ones_size : (k n : ℕ) → n < 2 ^ k → count_ones n ≡ size_below k n
unfolding size_below lib.Count.ones
ones_size zero n small = let none : n ≡ 0 = omega arith in ap count_ones none
ones_size (suc k) n small =
    let s = ones_step n in
    let l = by_low k n in
    let on = ones_size k (n / 2) (omega arith) in
    omega arith

pub size_le : (k n : ℕ) → size_below k n ≤ k
unfolding size_below
size_le zero n = omega arith
size_le (suc k) n = let on = size_le k n in let b = bit_at-lt n k in omega arith

pub ones_few : (n : ℕ) → n < 2 ^ 128 → count_ones n ≤ 128
ones_few n small = let e = ones_size 128 n small in let le = size_le 128 n in omega arith

pub length_members : (k n : ℕ) → length (members k n) ≡ size_below k n
unfolding members size_below
length_members zero n = refl
length_members (suc k) n =
    let on = length_members k n in
    let small = bit_at-lt n k in
    let goes : (t : Bool) → (bit_at n k == 1) ≡ t → length (cond t (members k n ++ k ∷ []) (members k n)) ≡ size_below k n + bit_at n k =
    elim [
      | true ↦ λ e. let one = eqb-true _ _ e in simp length-append (omega arith)
      | false ↦ λ e. let none : bit_at n k ≡ 0 =
          elim (cases_eq (bit_at n k) 1) [ inl one ↦ absurd (let y = eq-eqb _ _ one in cc) | inr other ↦ omega arith ] in omega arith
    ] in
    goes (bit_at n k == 1) refl

pub member_set : (w n k : ℕ) → Contains (members w n) k → (k < w) × (bit_at n k ≡ 1)
unfolding members
member_set zero n k has = absurd (let none = has.1 in omega arith)
member_set (suc w) n k has =
    let goes : (t : Bool) → (bit_at n w == 1) ≡ t → Contains (cond t (members w n ++ w ∷ []) (members w n)) k → (k < suc w) × (bit_at n k ≡ 1) =
    elim [
      | true ↦ λ e h. elim (Contains-push_cases (members w n) w k h) [
        | inl in_rest ↦ let p = member_set w n k in_rest in let less = p.0 in (omega arith, p.1)
        | inr same ↦ (omega arith, subst (λ j. bit_at n j ≡ 1) same (eqb-true _ _ e))
      ]
      | false ↦ λ e h. let p = member_set w n k h in let less = p.0 in (omega arith, p.1)
    ] in
    goes (bit_at n w == 1) refl has

pub set_member : (w n k : ℕ) → k < w → bit_at n k ≡ 1 → Contains (members w n) k
unfolding members
set_member zero n k less one = absurd (omega arith)
set_member (suc w) n k less one =
    let goes : (t : Bool) → (bit_at n w == 1) ≡ t → Contains (cond t (members w n ++ w ∷ []) (members w n)) k =
    elim [
      | true ↦ λ e. elim (cases_eq k w) [
        | inl same ↦ rw same (Contains-push (members w n) w)
        | inr other ↦ Contains-append_left (members w n) (w ∷ []) k (set_member w n k (omega arith) one)
      ]
      | false ↦ λ e. elim (cases_eq k w) [
        | inl same ↦ absurd (let y = eq-eqb _ _ (subst (λ j. bit_at n j ≡ 1) same one) in cc)
        | inr other ↦ set_member w n k (omega arith) one
      ]
    ] in
    goes (bit_at n w == 1) refl

not_true : (b : Bool) → (b ≡ true → ⊥) → b ≡ false
not_true true never = absurd (never refl)
not_true false never = refl

pub members_distinct : (w n : ℕ) → IsDistinct nat_eq (members w n)
unfolding members
members_distinct zero n = IsDistinct-from_apart nat_eq [] (λ i j d less inside. absurd (omega arith))
members_distinct (suc w) n =
    let on = members_distinct w n in
    let new : list_any (nat_eq w) (members w n) ≡ false =
    not_true (list_any (nat_eq w) (members w n))
    (λ yes. let p = member_set w n w ((is_member-Decides unsigned_Decides (members w n) w).0 yes) in let less = p.0 in omega arith) in
    let goes : (t : Bool) → IsDistinct nat_eq (cond t (members w n ++ w ∷ []) (members w n)) =
    elim [ true ↦ IsDistinct-push nat_eq_equiv (members w n) w on new | false ↦ on ] in
    goes (bit_at n w == 1)

pub below_width : (n k : ℕ) → n < 2 ^ 128 → bit_at n k ≡ 1 → k < 128
below_width n k small one =
    elim (leb_tells 128 k) [
      | inl past ↦ absurd (let none = bit_at_above n 128 k small past.1 in omega arith)
      | inr less ↦ less.1
    ]

-- the size of what a set holds is the number of its bits
pub sized : (S : ℕ → Type 0) (set : ℕ) → set < 2 ^ 128 → IsSetOf S set → HasSize S (count_ones set)
sized S set small is = (
  members 128 set,
  members_distinct 128 set,
  (λ k. (
    λ has. (is.exact k).0 (member_set 128 set k has).1,
    λ holds. let one = (is.exact k).1 holds in set_member 128 set k (below_width set k small one) one,
  )),
  length_members 128 set ∙ sym (ones_size 128 set small),
)

-- a part is not larger than the whole
pub smaller : (S T : ℕ → Type 0) (m n : ℕ) → ((k : ℕ) → S k → T k) → HasSize S m → HasSize T n → m ≤ n
smaller S T m n sub s t =
    let le = length-le_from_is_member nat_eq_equiv s.0 t.0 s.1 (λ q is.
    (is_member-Decides unsigned_Decides t.0 q).1 ((t.2 q).1 (sub q ((s.2 q).0 ((is_member-Decides unsigned_Decides s.0 q).0 is))))) in
    let a = s.3 in
    let b = t.3 in
    omega arith

-- unions and differences of sets
pub union : (S T : ℕ → Type 0) (a b : ℕ) → IsSetOf S a → IsSetOf T b → IsSetOf (λ k. S k ⊎ T k) (bit_or a b)
union S T a b s t = record {
  exact = λ k.
      let either = bit_at_or a b k in
      let top = bit_at-lt (bit_or a b) k in
      let low = bit_at-lt b k in (
        λ one. elim (cases_eq (bit_at a k) 1) [
          | inl in_a ↦ inl ((s.exact k).0 in_a)
          | inr not_a ↦ let high = bit_at-lt a k in inr ((t.exact k).0 (omega arith))
        ],
        elim [
          | inl holds ↦ let one = (s.exact k).1 holds in omega arith
          | inr holds ↦ let one = (t.exact k).1 holds in omega arith
        ],
      );
}

pub difference : (S T : ℕ → Type 0) (a b : ℕ) → a < 2 ^ 128 → b < 2 ^ 128 → IsSetOf S a → IsSetOf T b
    → IsSetOf (λ k. S k × (T k → ⊥)) (bit_and a (bit_not w128 b))
difference S T a b small_a small_b s t = record {
  exact = λ k.
      let both = bit_at_and a (bit_not w128 b) k in
      let low_a = bit_at-lt a k in (
        λ one.
            let in_a : bit_at a k ≡ 1 = omega arith in
            let other = bit_at_not w128 b k small_b (below_width a k small_a in_a) in
            ((s.exact k).0 in_a, λ holds. let one_b = (t.exact k).1 holds in omega arith),
        λ holds.
            let in_a = (s.exact k).1 holds.0 in
            let other = bit_at_not w128 b k small_b (below_width a k small_a in_a) in
            let low_b = bit_at-lt b k in
            elim (cases_eq (bit_at b k) 1) [
              | inl in_b ↦ absurd (holds.1 ((t.exact k).0 in_b))
              | inr not_b ↦ omega arith
            ],
      );
}
