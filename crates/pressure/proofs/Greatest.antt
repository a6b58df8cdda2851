-- The greatest sizes so far.
use Rattle.std.proofs.Common.{◌≡◌, ℕ, ◌+◌, ◌<◌, ◌≤◌, ◌⊎◌, max, true, false, List, Some, length, get_or, slice_get, subst, inl, inr, arith}
use Rattle.std.proofs.lemmas.Bool.{cases_eq}
use Rattle.std.proofs.lemmas.Option.{slice_get_within, slice_get-get_or, get_or_from_slice_get}
use Rattle.micro_isa.specs.declared.program.Line.{Line}
use Rattle.micro_isa.specs.Columns.{switches_at}
use Rattle.liveness.specs.Liveness.{LiveIn}
use Rattle.liveness.specs.Sets.{HasSize}
use Rattle.liveness.specs.Surviving.{SwitchesAt, Stays, IsAfter}
use Rattle.liveness.specs.Pressures.{IsPrivatePressure, IsTotalPressure}
use Rattle.liveness.proofs.Sizes.{smaller}

-- the greatest over the instructions below n
pub record IsPrivateBelow (code : List Line) (n p : ℕ) : Type 0 where
  pub entry : (m : ℕ) → HasSize (LiveIn code 0) m → m ≤ p
  pub stay : (i m : ℕ) → i < n → SwitchesAt code i → HasSize (Stays code i) m → m ≤ p
  pub reached : HasSize (LiveIn code 0) p ⊎ ((i : ℕ) × SwitchesAt code i × HasSize (Stays code i) p)

pub record IsTotalBelow (code : List Line) (n r : ℕ) : Type 0 where
  pub before : (i m : ℕ) → i < n → HasSize (LiveIn code i) m → m ≤ r
  pub after : (i m : ℕ) → i < n → HasSize (IsAfter code i) m → m ≤ r
  pub stay : (i m : ℕ) → i < n → HasSize (Stays code i) m → m ≤ r
  pub reached : (i : ℕ) × (i < length code) × (HasSize (LiveIn code i) r ⊎ HasSize (IsAfter code i) r)

same_set : (S : ℕ → Type 0) (m n : ℕ) → HasSize S m → HasSize S n → m ≤ n
same_set S m n a b = smaller S S m n (λ k holds. holds) a b

pub private_begun : (code : List Line) (p : ℕ) → HasSize (LiveIn code 0) p → IsPrivateBelow code 0 p
private_begun code p size = record {
  entry = λ m other. same_set (LiveIn code 0) m p other size;
  stay = λ i m none switching other. absurd (omega arith);
  reached = inl size;
}

pub private_switching : (code : List Line) (i p s : ℕ) (d : Line) → i < length code → switches_at (get_or code i d).instr ≡ true
    → HasSize (Stays code i) s → IsPrivateBelow code i p → IsPrivateBelow code (i + 1) (max p s)
private_switching code i p s d here switching size before = record {
  entry = λ m other. let le = before.entry m other in omega arith;
  stay = λ j m less at other. elim (cases_eq j i) [
    | inl same ↦ let le = same_set (Stays code i) m s (subst (λ n. HasSize (Stays code n) m) same other) size in omega arith
    | inr not_i ↦ let le = before.stay j m (omega arith) at other in omega arith
  ];
  reached = elim (cases_eq (max p s) p) [
    | inl kept ↦ rw kept before.reached
    | inr rose ↦
        let is : max p s ≡ s = omega arith in
        rw is (inr (i, (get_or code i d, slice_get-get_or code i d here, switching), size))
  ];
}

pub private_quiet : (code : List Line) (i p : ℕ) (d : Line) → switches_at (get_or code i d).instr ≡ false
    → IsPrivateBelow code i p → IsPrivateBelow code (i + 1) p
private_quiet code i p d quiet before = record {
  entry = before.entry;
  stay = λ j m less at other. elim (cases_eq j i) [
    | inl same ↦ absurd (
        let here = subst (λ n. slice_get code n ≡ Some at.0) same at.1 in
        let is = get_or_from_slice_get code i at.0 d here in
        let one = at.2 in
        let two : switches_at at.0.instr ≡ false = rw (← is) quiet in
        cc)
    | inr not_i ↦ before.stay j m (omega arith) at other
  ];
  reached = before.reached;
}

pub private_done : (code : List Line) (p : ℕ) → IsPrivateBelow code (length code) p → IsPrivatePressure code p
private_done code p below = record {
  entry = below.entry;
  stay = λ i m at other. below.stay i m (slice_get_within code i at.0 at.1) at other;
  reached = below.reached;
}

pub total_more : (code : List Line) (i r s t : ℕ) → i < length code → HasSize (LiveIn code i) s → HasSize (IsAfter code i) t
    → IsTotalBelow code i r → IsTotalBelow code (i + 1) (max (max r s) t)
total_more code i r s t here size_in size_after before = record {
  before = λ j m less other. elim (cases_eq j i) [
    | inl same ↦ let le = same_set (LiveIn code i) m s (subst (λ n. HasSize (LiveIn code n) m) same other) size_in in omega arith
    | inr not_i ↦ let le = before.before j m (omega arith) other in omega arith
  ];
  after = λ j m less other. elim (cases_eq j i) [
    | inl same ↦ let le = same_set (IsAfter code i) m t (subst (λ n. HasSize (IsAfter code n) m) same other) size_after in omega arith
    | inr not_i ↦ let le = before.after j m (omega arith) other in omega arith
  ];
  stay = λ j m less other. elim (cases_eq j i) [
    | inl same ↦
        let le = smaller (Stays code i) (IsAfter code i) m t (λ k holds. inl holds.0) (subst (λ n. HasSize (Stays code n) m) same other) size_after in
        omega arith
    | inr not_i ↦ let le = before.stay j m (omega arith) other in omega arith
  ];
  reached = elim (cases_eq (max (max r s) t) r) [
    | inl kept ↦ rw kept before.reached
    | inr rose ↦ elim (cases_eq (max (max r s) t) s) [
      | inl by_in ↦ rw by_in (i, here, inl size_in)
      | inr by_after ↦ let is : max (max r s) t ≡ t = omega arith in rw is (i, here, inr size_after)
    ]
  ];
}

pub total_done : (code : List Line) (r : ℕ) → IsTotalBelow code (length code) r → IsTotalPressure code r
total_done code r below = record {
  before = below.before;
  after = below.after;
  reached = below.reached;
}

-- what survives has a place among all
pub in_order : (code : List Line) (p r : ℕ) → 0 < length code → IsPrivatePressure code p → IsTotalPressure code r
    → ((i n : ℕ) → i < length code → HasSize (Stays code i) n → n ≤ r) → p ≤ r
in_order code p r some private total stay =
    elim private.reached [
      | inl entry ↦ total.before 0 p some entry
      | inr at ↦ stay at.0 p (slice_get_within code at.0 at.1.0 at.1.1) at.2
    ]
