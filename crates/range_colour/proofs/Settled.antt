-- One register more gets its place.
use Rattle.std.proofs.Common.{◌≡◌, ◌≢◌, ◌==◌, ℕ, ◌+◌, ◌*◌, ◌%◌, ◌^◌, ◌<◌, ◌≤◌, ◌⊎◌, ◌↔◌, max, Bool, true, false, List, [], ◌∷◌, ◌++◌, length, get_or, set, sym, subst, refl, ◌∙◌, inl, inr, arith, bit_or, length-append}
use Rattle.std.specs.Prelude.{if◌then◌else◌}
use Rattle.std.specs.Int.{bit_at}
use Rattle.std.proofs.lemmas.Bool.{cases_eq, cases_lt, eq-eqb, eqb-true}
use Rattle.std.proofs.lemmas.List.{get_or-set_same, get_or-set_other, get_or_append_left}
use Rattle.std.proofs.Math.ListN.{length-set}
use Rattle.std.proofs.Math.Seq.{get_or-append_seam}
use Rattle.std.proofs.lemmas.Nat.Bits.{bit_at-zero}
use Rattle.range_colour.specs.Settling.{AreTaken, Before, In, IsFreePlace, IsLeastFree, IsSettledTo, opened}
use Rattle.range_colour.proofs.Bits.{set_bits}

by_test : (t : Bool) (x y : List ℕ) → ((t ≡ true) × ((if t then x else y) ≡ x)) ⊎ ((t ≡ false) × ((if t then x else y) ≡ y))
by_test true x y = inl (refl, refl)
by_test false x y = inr (refl, refl)

-- a place is there, or it is new and has no register
opened_cases : (taken : List ℕ) (place : ℕ) → place ≤ length taken
    → ((place < length taken) × (opened taken place ≡ taken)) ⊎ ((place ≡ length taken) × (opened taken place ≡ taken ++ 0 ∷ []))
opened_cases taken place within = elim (by_test (place == length taken) (taken ++ 0 ∷ []) taken) [
  | inl new ↦ inr (eqb-true _ _ new.0, new.1)
  | inr old ↦ elim (cases_eq place (length taken)) [
    | inl same ↦ absurd (let e = eq-eqb place (length taken) same in let f = old.0 in cc)
    | inr other ↦ inl (omega arith, old.1)
  ]
]

module _ (Settled : ℕ → Type 0) (f : ℕ → ℕ) (taken : List ℕ) (are : AreTaken Settled f taken) (place : ℕ) (within : place ≤ length taken) where
  -- the opened places have the settled registers
  pub record IsOpen : Type 0 where
    pub long : length taken ≤ length (opened taken place)
    pub there : place < length (opened taken place)
    pub has : (q j : ℕ) → q < length (opened taken place) → In (get_or (opened taken place) q 0) j ↔ (Settled j × (f j ≡ q))

  new_has : (q j : ℕ) → place ≡ length taken → q < length taken + 1 → In (get_or (taken ++ 0 ∷ []) q 0) j ↔ (Settled j × (f j ≡ q))
  new_has q j new less = elim (cases_eq q (length taken)) [
    | inl last ↦
        let none : get_or (taken ++ 0 ∷ []) q 0 ≡ 0 = rw last (get_or-append_seam taken 0 [] 0) in (
          λ one. absurd (let z : bit_at (get_or (taken ++ 0 ∷ []) q 0) j ≡ 0 = rw none (bit_at-zero j) in omega arith),
          λ settled. absurd (let low = are.within j settled.0 in let e = settled.1 in omega arith),
        )
    | inr other ↦ rw (get_or_append_left taken (0 ∷ []) 0 q (omega arith)) (are.has q j (omega arith))
  ]

  pub is_open : IsOpen
  is_open = elim (opened_cases taken place within) [
    | inl old ↦ record {
      long = rw old.1 (omega arith);
      there = rw old.1 old.0;
      has = rw old.1 are.has;
    }
    | inr new ↦
        let long = length-append taken (0 ∷ []) in record {
          long = rw new.1 (omega arith);
          there = let e = new.0 in rw new.1 (omega arith);
          has = rw new.1 (λ q j less. new_has q j new.0 (omega arith));
        }
  ]

module _ (meets : List ℕ) (done those n : ℕ) (old new taken : List ℕ) (above : ℕ) (so_far : IsSettledTo meets done those n old new taken above) where
  before_more : (j : ℕ) → Before done those n j → Before done those (n + 1) j
  before_more j (inl settled) = inl settled
  before_more j (inr member) = inr (member.0, let less = member.1 in omega arith)

  -- the register is not of the set
  before_same : (In those n → ⊥) → (j : ℕ) → Before done those (n + 1) j → Before done those n j
  before_same none j (inl settled) = inl settled
  before_same none j (inr member) = elim (cases_eq j n) [
    | inl same ↦ absurd (none (subst (In those) same member.0))
    | inr other ↦ inr (member.0, let less = member.1 in omega arith)
  ]

  earlier : (In those n → ⊥) → (k : ℕ) → In those k → k < n + 1 → k < n
  earlier none k member less = elim (cases_eq k n) [
    | inl same ↦ absurd (none (subst (In those) same member))
    | inr other ↦ omega arith
  ]

  pub settled_skips : (In those n → ⊥) → IsSettledTo meets done those (n + 1) old new taken above
  settled_skips none = record {
    long = so_far.long;
    taken = record {
      has = λ q j less.
          let both = so_far.taken.has q j less in (
            λ one. let p = both.0 one in (before_more j p.0, p.1),
            λ settled. both.1 (before_same none j settled.0, settled.1),
          );
      within = λ j settled. so_far.taken.within j (before_same none j settled);
    };
    free = λ k member less. so_far.free k member (earlier none k member less);
    kept = so_far.kept;
    below = λ k member less. so_far.below k member (earlier none k member less);
    reached = elim so_far.reached [
      | inl none_yet ↦ inl none_yet
      | inr some ↦ inr (some.0, some.1, let less = some.2 in omega arith, some.3)
    ];
  }

  module _ (member : In those n) (fresh : In done n → ⊥) (small : n < 128) (inside : n < length new) (place : ℕ) (free : IsFreePlace taken (get_or meets n 0) place) where
    abbrev pub placed : List ℕ
    placed = set new n place

    abbrev pub held : List ℕ
    held = set (opened taken place) place (bit_or (get_or (opened taken place) place 0) (1 * 2 ^ n % 2 ^ 128))

    is_here : get_or placed n 0 ≡ place
    is_here = get_or-set_same new n place 0 inside

    is_there : (j : ℕ) → j ≢ n → get_or placed j 0 ≡ get_or new j 0
    is_there j other = get_or-set_other new n j place 0 other

    -- what was settled is another register
    another : (j m : ℕ) → m ≤ n → Before done those m j → j ≢ n
    another j m le (inl settled) same = fresh (subst (In done) same settled)
    another j m le (inr earlier) same = let less = earlier.1 in omega arith

    before_cases : (j : ℕ) → Before done those (n + 1) j → (j ≡ n) ⊎ Before done those n j
    before_cases j (inl settled) = inr (inl settled)
    before_cases j (inr earlier) = elim (cases_eq j n) [
      | inl same ↦ inl same
      | inr other ↦ inr (inr (earlier.0, let less = earlier.1 in omega arith))
    ]

    open_has : IsOpen (Before done those n) (λ j. get_or new j 0) taken so_far.taken place free.within
    open_has = is_open (Before done those n) (λ j. get_or new j 0) taken so_far.taken place free.within

    long_held : length held ≡ length (opened taken place)
    long_held = length-set (opened taken place) place _

    still : (j q : ℕ) → Before done those n j × (get_or new j 0 ≡ q) → Before done those (n + 1) j × (get_or placed j 0 ≡ q)
    still j q settled = (before_more j settled.0, is_there j (another j n (omega arith) settled.0) ∙ settled.1)

    at_last : (q j : ℕ) → j ≡ n → q ≡ place → Before done those (n + 1) j × (get_or placed j 0 ≡ q)
    at_last q j same here = (inr (subst (In those) (sym same) member, omega arith), subst (λ i. get_or placed i 0 ≡ q) (sym same) (is_here ∙ sym here))

    has_here : (j : ℕ) → In (get_or held place 0) j ↔ (Before done those (n + 1) j × (get_or placed j 0 ≡ place))
    has_here j =
        let opens = open_has in
        let is = get_or-set_same (opened taken place) place (bit_or (get_or (opened taken place) place 0) (1 * 2 ^ n % 2 ^ 128)) 0 opens.there in
        let bits = set_bits (get_or (opened taken place) place 0) n j small in
        let both = opens.has place j opens.there in
        rw is (
          λ one. elim (bits.0 one) [ inl before ↦ still j place (both.0 before) | inr same ↦ at_last place j same refl ],
          λ settled. bits.1 (elim (before_cases j settled.0) [
            | inl same ↦ inr same
            | inr before ↦ inl (both.1 (before, sym (is_there j (another j n (omega arith) before)) ∙ settled.1))
          ]),
        )

    has_other : (q j : ℕ) → q ≢ place → q < length (opened taken place) → In (get_or held q 0) j ↔ (Before done those (n + 1) j × (get_or placed j 0 ≡ q))
    has_other q j other less =
        let opens = open_has in
        let is = get_or-set_other (opened taken place) place q (bit_or (get_or (opened taken place) place 0) (1 * 2 ^ n % 2 ^ 128)) 0 other in
        let both = opens.has q j less in
        rw is (
          λ one. still j q (both.0 one),
          λ settled. elim (before_cases j settled.0) [
            | inl same ↦ absurd (other (let e = settled.1 in sym e ∙ subst (λ i. get_or placed i 0 ≡ place) (sym same) is_here))
            | inr before ↦ both.1 (before, sym (is_there j (another j n (omega arith) before)) ∙ settled.1)
          ],
        )

    taken_more : AreTaken (Before done those (n + 1)) (λ j. get_or placed j 0) held
    taken_more = record {
      has = λ q j less. elim (cases_eq q place) [
        | inl here ↦ subst (λ i. In (get_or held i 0) j ↔ (Before done those (n + 1) j × (get_or placed j 0 ≡ i))) (sym here) (has_here j)
        | inr other ↦ has_other q j other (let e = long_held in omega arith)
      ];
      within = λ j settled.
          let opens = open_has in
          let e = long_held in
          let there = opens.there in
          let long = opens.long in
          elim (before_cases j settled) [
            | inl same ↦ let is = subst (λ i. get_or placed i 0 ≡ place) (sym same) is_here in omega arith
            | inr before ↦ let low = so_far.taken.within j before in let is = is_there j (another j n (omega arith) before) in omega arith
          ];
    }

    free_here : IsLeastFree meets (Before done those n) (λ j. get_or placed j 0) n
    free_here = record {
      apart = λ j settled meet same.
          let is = is_there j (another j n (omega arith) settled) in
          let here = is_here in
          let low = so_far.taken.within j settled in
          let at : get_or new j 0 ≡ place = omega arith in
          free.free j (omega arith) ((so_far.taken.has place j (omega arith)).1 (settled, at)) meet;
      least = λ q less.
          let here = is_here in
          let found = free.before q (omega arith) in
          let within = free.within in
          let is = (so_far.taken.has q found.0 (omega arith)).0 found.1 in
          (found.0, is.0, found.2, is_there found.0 (another found.0 n (omega arith) is.0) ∙ is.1);
    }

    free_still : (k : ℕ) → k < n → IsLeastFree meets (Before done those k) (λ j. get_or new j 0) k → IsLeastFree meets (Before done those k) (λ j. get_or placed j 0) k
    free_still k less before =
        let mine = is_there k (λ same. omega arith) in record {
          apart = λ j settled meet same. let is = is_there j (another j k (omega arith) settled) in before.apart j settled meet (omega arith);
          least = λ q low.
              let found = before.least q (omega arith) in
              (found.0, found.1, found.2, is_there found.0 (another found.0 k (omega arith) found.1) ∙ found.3);
        }

    pub settled_more : IsSettledTo meets done those (n + 1) old placed held (max above (place + 1))
    settled_more = record {
      long = length-set new n place ∙ so_far.long;
      taken = taken_more;
      free = λ k of less. elim (cases_eq k n) [
        | inl same ↦ subst (λ i. IsLeastFree meets (Before done those i) (λ j. get_or placed j 0) i) (sym same) free_here
        | inr other ↦ free_still k (omega arith) (so_far.free k of (omega arith))
      ];
      kept = λ j settled. is_there j (another j n (omega arith) (inl settled)) ∙ so_far.kept j settled;
      below = λ k of less. elim (cases_eq k n) [
        | inl same ↦ let is = subst (λ i. get_or placed i 0 ≡ place) (sym same) is_here in omega arith
        | inr other ↦ let low = so_far.below k of (omega arith) in let is = is_there k other in omega arith
      ];
      reached = elim (cases_lt (place + 1) above) [
        | inl less ↦ elim so_far.reached [
          | inl none ↦ absurd (omega arith)
          | inr some ↦
              let low = some.2 in
              let at = some.3 in
              let is = is_there some.0 (λ same. omega arith) in
              inr (some.0, some.1, omega arith, omega arith)
        ]
        | inr more ↦ let is = is_here in inr (n, member, omega arith, omega arith)
      ];
    }

-- registers of the set are all below n
pub settled_wide : (meets : List ℕ) (done those n m : ℕ) (old new taken : List ℕ) (above : ℕ) → ((k : ℕ) → In those k → k < n) → n ≤ m
    → IsSettledTo meets done those n old new taken above → IsSettledTo meets done those m old new taken above
settled_wide meets done those n m old new taken above small le so_far =
    let wider : (j : ℕ) → Before done those n j → Before done those m j = λ j before. elim before [ inl settled ↦ inl settled | inr member ↦ inr (member.0, let less = member.1 in omega arith) ] in
    let narrower : (j : ℕ) → Before done those m j → Before done those n j = λ j before. elim before [ inl settled ↦ inl settled | inr member ↦ inr (member.0, small j member.0) ] in
    record {
      long = so_far.long;
      taken = record {
        has = λ q j less.
            let both = so_far.taken.has q j less in (
              λ one. let p = both.0 one in (wider j p.0, p.1),
              λ settled. both.1 (narrower j settled.0, settled.1),
            );
        within = λ j settled. so_far.taken.within j (narrower j settled);
      };
      free = λ k member less. so_far.free k member (small k member);
      kept = so_far.kept;
      below = λ k member less. so_far.below k member (small k member);
      reached = elim so_far.reached [
        | inl none ↦ inl none
        | inr some ↦ inr (some.0, some.1, let less = some.2 in omega arith, some.3)
      ];
    }
