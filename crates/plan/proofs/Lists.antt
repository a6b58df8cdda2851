-- What a row lists, as sets and entry by entry.
use Rattle.std.proofs.Common.{◌≡◌, ℕ, zero, suc, ◌+◌, ◌<◌, ◌≤◌, ◌^◌, ◌*◌, ◌%◌, ◌↔◌, List, [], ◌∷◌, ◌++◌, take, Option, Some, None, length, get_or, Contains, add-one, refl, sym, subst, ◌∙◌, ap, ◌⊎◌, inl, inr, arith}
use Rattle.std.specs.Prelude.{bit_and, bit_or}
use Rattle.std.specs.Int.{bit_at, bit_not, w128}
use Rattle.std.proofs.lemmas.Bool.{cases_eq}
use Rattle.std.proofs.lemmas.Bool.Decides.{leb_tells}
use Rattle.std.proofs.lemmas.List.{take_all, map-append}
use Rattle.std.proofs.Math.Seq.{take-suc}
use Rattle.std.proofs.lemmas.Grind.{get_or_default_zero}
use Rattle.std.proofs.lemmas.List.Elements.{Contains-append_left, Contains-push, Contains-push_cases}
use Rattle.std.proofs.lemmas.Nat.Bits.{bit_at_above, bit_at-zero, bit_at_set_same, bit_at_set_other}
use Rattle.std.proofs.lemmas.Option.{slice_get-get_or, get_or_from_slice_get}
use Rattle.micro_isa.specs.declared.program.Line.{Line}
use Rattle.micro_isa.specs.declared.program.VReg.{VReg}
use Rattle.micro_isa.specs.Columns.{written_by}
use Rattle.liveness.specs.Liveness.{LiveIn}
use Rattle.liveness.specs.Sets.{IsSetOf, Takes, members}
use Rattle.liveness.specs.Surviving.{WritesAt}
use Rattle.liveness.proofs.Sizes.{union, difference}
use Rattle.liveness.proofs.Members.{listed as members_list}
use Rattle.plan.specs.declared.row.Place.{Place}
use Rattle.plan.specs.ValidPlans.{registers_of}
use Rattle.plan.specs.Faults.{Nowhere, IsFirst, IsMissing, IsStray, IsExtra, HasExtraWrite, IsListing, IsReached, IsLesser}
use Rattle.plan.proofs.Entries.{no_member}

pub listing_is : (code : List Line) (i : ℕ) (places : List Place) (write : Option ℕ) → Nowhere (IsMissing code i places write)
    → Nowhere (IsExtra (LiveIn code i) None places) → (HasExtraWrite code i write → ⊥) → IsListing code i places write
listing_is code i places write all only no_more = record { all = all; only = only; no_more = no_more }

-- what is taken out of a set is the least of it
pub least_taken : (P : ℕ → Type 0) (set rest : ℕ) (o : Option VReg) → set < 2 ^ 128 → IsSetOf P set → Takes set o rest → IsFirst P o
least_taken P set rest None small is takes = λ k holds.
    let has = ((members_list P set small is).exact k).1 holds in
    no_member k (subst (λ xs. Contains xs k) takes has)
least_taken P set rest (Some register) small is takes =
    let lists = members_list P set small is in (
      (lists.exact register.0).0 (subst (λ xs. Contains xs register.0) (sym takes.1) (0, omega arith, refl)),
      λ j less holds.
          let has = subst (λ xs. Contains xs j) takes.1 ((lists.exact j).1 holds) in
          later j less has.0 has.1 has.2
          (λ a b low inside. subst (λ xs. get_or xs a 0 < get_or xs b 0) takes.1 (lists.rising a b low (subst (λ xs. b < length xs) (sym takes.1) inside))),
    )
  where
    later : (j : ℕ) → j < register.0 → (a : ℕ) → a < length (register.0 ∷ members 128 rest) → get_or (register.0 ∷ members 128 rest) a j ≡ j
        → ((a b : ℕ) → a < b → b < length (register.0 ∷ members 128 rest) → get_or (register.0 ∷ members 128 rest) a 0 < get_or (register.0 ∷ members 128 rest) b 0) → ⊥
    later j less zero inside e rising = absurd (omega arith)
    later j less (suc a) inside e rising =
        let above = rising 0 (suc a) (omega arith) inside in
        let same = get_or_default_zero (members 128 rest) a j (omega arith) in
        absurd (omega arith)

-- the set of what is missing
pub missing_set : (code : List Line) (i : ℕ) (places : List Place) (write : Option ℕ) (before listed unplaced : ℕ) → before < 2 ^ 128 → listed < 2 ^ 128
    → IsSetOf (LiveIn code i) before → IsSetOf (λ k. (k < 128) × Contains (registers_of places) k) listed → IsSetOf (λ k. WritesAt code i k × (write ≡ None)) unplaced
    → IsSetOf (IsMissing code i places write) (bit_or (bit_and before (bit_not w128 listed)) unplaced)
missing_set code i places write before listed unplaced small_b small_l is_b is_l is_u =
    let part = difference (LiveIn code i) (λ k. (k < 128) × Contains (registers_of places) k) before listed small_b small_l is_b is_l in
    let all = union (λ k. LiveIn code i k × ((k < 128) × Contains (registers_of places) k → ⊥)) (λ k. WritesAt code i k × (write ≡ None))
    (bit_and before (bit_not w128 listed)) unplaced part is_u in record {
      exact = λ k. (
        λ one. elim ((all.exact k).0 one) [
          | inl live ↦ inl (live.0, λ has. live.1 (low k live.0, has))
          | inr writes ↦ inr writes
        ],
        elim [
          | inl live ↦ (all.exact k).1 (inl (live.0, λ has. live.1 has.1))
          | inr writes ↦ (all.exact k).1 (inr writes)
        ],
      );
    }
  where
    low : (k : ℕ) → LiveIn code i k → k < 128
    low k live =
        let one = (is_b.exact k).1 live in
        elim (leb_tells 128 k) [
          | inl past ↦ absurd (let none = bit_at_above before 128 k small_b past.1 in omega arith)
          | inr less ↦ less.1
        ]

-- one more entry of a list
pub listed_more : (places : List Place) (n set alone : ℕ) (d : Place) → n < length places
    → IsSetOf (λ k. (k < 128) × Contains (registers_of (take n places)) k) set → IsSetOf (λ k. (k < 128) × ((get_or places n d).register.0 ≡ k)) alone
    → IsSetOf (λ k. (k < 128) × Contains (registers_of (take (n + 1) places)) k) (bit_or set alone)
listed_more places n set alone d inside is one =
    let e : registers_of (take (n + 1) places) ≡ registers_of (take n places) ++ (get_or places n d).register.0 ∷ [] =
    ap registers_of (ap (λ m. take m places) (add-one n) ∙ take-suc places n d inside) ∙ map-append (λ q. q.register.0) (take n places) (get_or places n d ∷ []) in
    let all = union (λ k. (k < 128) × Contains (registers_of (take n places)) k) (λ k. (k < 128) × ((get_or places n d).register.0 ≡ k)) set alone is one in record {
      exact = λ k. (
        λ bit. elim ((all.exact k).0 bit) [
          | inl old ↦ (old.0, subst (λ xs. Contains xs k) (sym e) (Contains-append_left (registers_of (take n places)) ((get_or places n d).register.0 ∷ []) k old.1))
          | inr new ↦ (new.0, subst (λ xs. Contains xs k) (sym e) (subst (λ m. Contains (registers_of (take n places) ++ (get_or places n d).register.0 ∷ []) m) new.1 (Contains-push (registers_of (take n places)) (get_or places n d).register.0)))
        ],
        λ holds. elim (Contains-push_cases (registers_of (take n places)) (get_or places n d).register.0 k (subst (λ xs. Contains xs k) e holds.1)) [
          | inl old ↦ (all.exact k).1 (inl (holds.0, old))
          | inr new ↦ (all.exact k).1 (inr (holds.0, new))
        ],
      );
    }

pub none_listed : (places : List Place) → IsSetOf (λ k. (k < 128) × Contains (registers_of (take 0 places)) k) 0
none_listed places = record {
  exact = λ k. (λ one. absurd (let z = bit_at-zero k in omega arith), λ holds. absurd (no_member k holds.1));
}

pub all_listed : (places : List Place) (n set : ℕ) → length places ≤ n → IsSetOf (λ k. (k < 128) × Contains (registers_of (take n places)) k) set
    → IsSetOf (λ k. (k < 128) × Contains (registers_of places) k) set
all_listed places n set whole is = subst (λ qs. IsSetOf (λ k. (k < 128) × Contains (registers_of qs) k) set) (take_all n places whole) is

-- entries that are extra

pub extra_same : (S T : ℕ → Type 0) (before : Option VReg) (qs : List Place) (k : ℕ) → ((j : ℕ) → T j → S j) → IsExtra S before qs k → IsExtra T before qs k
extra_same S T before [] k goes extra = extra
extra_same S T before (q ∷ qs) k goes extra = elim extra [
  | inl here ↦ inl (here.0, elim here.1 [ inl out ↦ inl (λ holds. out (goes k holds)) | inr low ↦ inr low ])
  | inr later ↦ inr (extra_same S T (Some q.register) qs k goes later)
]

pub first_same : (S T : ℕ → Type 0) (o : Option VReg) → ((k : ℕ) → S k ↔ T k) → IsFirst S o → IsFirst T o
first_same S T None same first = λ k holds. first k ((same k).1 holds)
first_same S T (Some register) same first = ((same register.0).0 first.0, λ j less holds. first.1 j less ((same j).1 holds))

-- the least one among the entries so far
pub record IsLeastSoFar (S : ℕ → Type 0) (places rest : List Place) (above least : Option VReg) : Type 0 where
  pub found : (m : VReg) → least ≡ Some m → IsExtra S None places m.0
  pub later : (k : ℕ) → IsExtra S above rest k → IsExtra S None places k
  pub split : (k : ℕ) → IsExtra S None places k → IsReached least k ⊎ IsExtra S above rest k

pub so_far_begun : (S : ℕ → Type 0) (places : List Place) → IsLeastSoFar S places places None None
so_far_begun S places = record { found = λ m e. absurd (cc); later = λ k extra. extra; split = λ k extra. inr extra }

same_some : (a b : VReg) → Some a ≡ Some b → a ≡ b
same_some a b e = ap (λ (o : Option VReg). (value_or o a)) e
  where
    value_or : Option VReg → VReg → VReg
    value_or None d = d
    value_or (Some v) d = v

-- past a stray entry, and past another one
pub stray_passed : (S : ℕ → Type 0) (places qs : List Place) (q : Place) (above least new : Option VReg) → IsLesser least q.register new
    → IsStray S above q.register.0 → IsLeastSoFar S places (q ∷ qs) above least → IsLeastSoFar S places qs (Some q.register) new
stray_passed S places qs q above least new lesser stray before = record {
  found = λ m e. elim lesser.one [
    | inl named ↦ let same : q.register ≡ m = same_some q.register m (sym named ∙ e) in
        subst (λ (v : VReg). IsExtra S None places v.0) same (before.later q.register.0 (inl (refl, stray)))
    | inr old ↦ before.found m (sym old ∙ e)
  ];
  later = λ k extra. before.later k (inr extra);
  split = λ k extra. elim (before.split k extra) [
    | inl reached ↦ inl (lesser.old k reached)
    | inr there ↦ elim there [
      | inl here ↦ inl (subst (λ n. IsReached new n) here.0 lesser.new)
      | inr later ↦ inr later
    ]
  ];
}

pub sound_passed : (S : ℕ → Type 0) (places qs : List Place) (q : Place) (above least : Option VReg)
    → (IsStray S above q.register.0 → ⊥) → IsLeastSoFar S places (q ∷ qs) above least → IsLeastSoFar S places qs (Some q.register) least
sound_passed S places qs q above least sound before = record {
  found = before.found;
  later = λ k extra. before.later k (inr extra);
  split = λ k extra. elim (before.split k extra) [
    | inl reached ↦ inl reached
    | inr there ↦ elim there [
      | inl here ↦ absurd (sound (subst (λ n. IsStray S above n) (sym here.0) here.1))
      | inr later ↦ inr later
    ]
  ];
}

pub least_found : (S : ℕ → Type 0) (places : List Place) (above least : Option VReg) → IsLeastSoFar S places [] above least
    → IsFirst (IsExtra S None places) least
least_found S places above None so_far = λ k extra. elim (so_far.split k extra) [ inl reached ↦ reached | inr later ↦ later ]
least_found S places above (Some m) so_far = (
  so_far.found m refl,
  λ j less extra. elim (so_far.split j extra) [ inl reached ↦ absurd (omega arith) | inr later ↦ later ],
)

-- a register alone
pub alone_set : (m : ℕ) → m < 128 → IsSetOf (λ k. (k < 128) × (m ≡ k)) (1 * 2 ^ m % 2 ^ 128)
alone_set m small = record {
  exact = λ k. (
    λ one. elim (cases_eq k m) [
      | inl same ↦ (subst (λ n. n < 128) (sym same) small, sym same)
      | inr other ↦ elim (leb_tells 128 k) [
        | inl past ↦ absurd (let none = bit_at_above (1 * 2 ^ m % 2 ^ 128) 128 k (omega arith) past.1 in omega arith)
        | inr less ↦ absurd (omega (arith, bit_at_set_other w128 0 m small k other, bit_at-zero k))
      ]
    ],
    λ holds. subst (λ j. bit_at (1 * 2 ^ m % 2 ^ 128) j ≡ 1) holds.1 (bit_at_set_same w128 0 m small),
  );
}

pub none_alone : (m : ℕ) → 128 ≤ m → IsSetOf (λ k. (k < 128) × (m ≡ k)) 0
none_alone m large = record {
  exact = λ k. (
    λ one. absurd (let z = bit_at-zero k in omega arith),
    λ holds. let less = holds.0 in let same = holds.1 in absurd (omega arith),
  );
}

-- what an instruction writes
pub nothing_written : (code : List Line) (i : ℕ) (d : Line) (written : Option VReg) → written ≡ written_by (get_or code i d).instr → i < length code
    → (written ≡ None) ↔ Nowhere (WritesAt code i)
nothing_written code i d None e here = (
  (λ _. λ k at.
      let same = get_or_from_slice_get code i at.0 d at.1 in
      let writes : None ≡ Some (record { 0 = k }) = e ∙ ap (λ (y : Line). written_by y.instr) same ∙ at.2 in
      absurd (cc)),
  λ _. refl,
)
nothing_written code i d (Some register) e here = (
  (λ is_none. absurd (cc)),
  λ none. absurd (none register.0 (get_or code i d, slice_get-get_or code i d here, sym e)),
)
