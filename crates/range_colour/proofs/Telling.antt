-- Which registers meet, told to one of two and then to the other.
use Rattle.std.proofs.Common.{◌≡◌, ℕ, ◌*◌, ◌%◌, ◌^◌, ◌<◌, ◌⊎◌, ◌↔◌, List, [], ◌∷◌, Contains, length, get_or, set, refl, sym, subst, inl, inr, bit_and, bit_or}
use Rattle.std.specs.Int.{bit_not, w128}
use Rattle.std.proofs.lemmas.Bool.{cases_eq}
use Rattle.std.proofs.lemmas.List.{get_or-set_same, get_or-set_other}
use Rattle.liveness.specs.Sets.{members}
use Rattle.liveness.proofs.Sizes.{below_width, member_set, set_member}
use Rattle.plan.proofs.Entries.{here, there, member_cases, no_member}
use Rattle.range_colour.specs.Settling.{AllHalfMeet, HalfMeet, In, MeetBy}
use Rattle.range_colour.proofs.Bits.{alone_bit, both_bits, or_bits, outside_or_in}

-- one register was told of a set
one_told : (now : List ℕ) (those r : ℕ) → r < length now → (j k : ℕ) → MeetBy (set now r (bit_or (get_or now r 0) those)) j k ↔ (MeetBy now j k ⊎ (In those j × (k ≡ r)))
one_told now those r inside j k = elim (cases_eq k r) [
  | inl same ↦
      let both = or_bits (get_or now r 0) those j in
      rw (same, get_or-set_same now r (bit_or (get_or now r 0) those) 0 inside) (
        λ one. elim (both.0 one) [ inl before ↦ inl before | inr new ↦ inr (new, refl) ],
        λ some. both.1 (elim some [ inl before ↦ inl before | inr new ↦ inr new.0 ]),
      )
  | inr other ↦
      rw (get_or-set_other now r k (bit_or (get_or now r 0) those) 0 other) (
        λ one. inl one,
        λ some. elim some [ inl before ↦ before | inr new ↦ absurd (other new.1) ],
      )
]

-- what is due of the members of a set, once none is left
pub none_due : (Now Before Due : Type 0) (k rest registers : ℕ) → registers < 2 ^ 128 → members 128 rest ≡ []
    → (Now ⊎ (Contains (members 128 rest) k × Due)) ↔ (Before ⊎ (Contains (members 128 registers) k × Due)) → Now ↔ (Before ⊎ (In registers k × Due))
none_due Now Before Due k rest registers small none both = (
  λ now. elim (both.0 (inl now)) [ inl before ↦ inl before | inr due ↦ inr ((member_set 128 registers k due.0).1, due.1) ],
  λ some. elim (both.1 (elim some [
    | inl before ↦ inl before
    | inr due ↦ inr (set_member 128 registers k (below_width registers k small due.0) due.0, due.1)
  ])) [
    | inl now ↦ now
    | inr later ↦ absurd (no_member k (subst (λ (ks : List ℕ). Contains ks k) none later.0))
  ],
)

-- what those that are told and those that are left come to
abbrev pub AreTold : List ℕ → List ℕ → ℕ → List ℕ → List ℕ → Type 0
AreTold now before those left whole = (j k : ℕ) → (MeetBy now j k ⊎ (Contains left k × In those j)) ↔ (MeetBy before j k ⊎ (Contains whole k × In those j))

pub told_more : (now before : List ℕ) (those r : ℕ) (left whole : List ℕ) → r < length now → AreTold now before those (r ∷ left) whole
    → AreTold (set now r (bit_or (get_or now r 0) those)) before those left whole
told_more now before those r left whole inside so_far j k =
    let told = one_told now those r inside j k in
    let both = so_far j k in (
      λ some. elim some [
        | inl meet ↦ elim (told.0 meet) [
          | inl yet ↦ both.0 (inl yet)
          | inr new ↦ both.0 (inr (subst (Contains (r ∷ left)) (sym new.1) (here r left), new.0))
        ]
        | inr later ↦ both.0 (inr (there r k left later.0, later.1))
      ],
      λ some. elim (both.1 some) [
        | inl yet ↦ inl (told.1 (inl yet))
        | inr due ↦ elim (member_cases r k left due.0) [
          | inl same ↦ inl (told.1 (inr (due.1, sym same)))
          | inr later ↦ inr (later, due.1)
        ]
      ],
    )

-- those of `last` met already, and each of the others was told of all
pub half_joined : (old new : List ℕ) (those last : ℕ) → those < 2 ^ 128 → last < 2 ^ 128 → AllHalfMeet old last
    → ((j k : ℕ) → MeetBy new j k ↔ (MeetBy old j k ⊎ (In (bit_and those (bit_not w128 last)) k × In those j)))
    → (j k : ℕ) → HalfMeet new j k ↔ (HalfMeet old j k ⊎ (In those j × In those k))
half_joined old new those last small small_last met told j k = (
  λ half. elim half [
    | inl one ↦ elim ((told j k).0 one) [ inl yet ↦ inl (inl yet) | inr now ↦ inr (now.1, (both_bits _ _ k now.0).0) ]
    | inr one ↦ elim ((told k j).0 one) [ inl yet ↦ inl (inr yet) | inr now ↦ inr ((both_bits _ _ j now.0).0, now.1) ]
  ],
  λ some. elim some [
    | inl half ↦ elim half [ inl yet ↦ inl ((told j k).1 (inl yet)) | inr yet ↦ inr ((told k j).1 (inl yet)) ]
    | inr both ↦ elim (outside_or_in those last k small small_last both.1) [
      | inl new ↦ inl ((told j k).1 (inr (new, both.0)))
      | inr known ↦ elim (outside_or_in those last j small small_last both.0) [
        | inl new ↦ inr ((told k j).1 (inr (new, both.1)))
        | inr also ↦ elim (met j k also known) [ inl yet ↦ inl ((told j k).1 (inl yet)) | inr yet ↦ inr ((told k j).1 (inl yet)) ]
      ]
    ]
  ],
)

-- what the closing of some registers did, with that of those that are left
pub record IsClosing (now before left whole : List ℕ) : Type 0 where
  pub kept : (j l : ℕ) → MeetBy before j l → MeetBy now j l
  pub exact : (j l : ℕ) → (MeetBy now j l ⊎ (Contains left j × MeetBy before l j)) ↔ (MeetBy before j l ⊎ (Contains whole j × MeetBy before l j))

pub closing_more : (next now before : List ℕ) (k : ℕ) (left whole : List ℕ) → k < 128 → IsClosing now before (k ∷ left) whole
    → ((j l : ℕ) → MeetBy next j l ↔ (MeetBy now j l ⊎ (In (get_or now k 0) l × In (1 * 2 ^ k % 2 ^ 128) j)))
    → IsClosing next before left whole
closing_more next now before k left whole small so_far told = record {
  kept = λ j l one. (told j l).1 (inl (so_far.kept j l one));
  exact = λ j l.
      let alone = alone_bit k j small in (
        λ some. elim some [
          | inl meet ↦ elim ((told j l).0 meet) [
            | inl yet ↦ (so_far.exact j l).0 (inl yet)
            | inr new ↦
                let same : j ≡ k = alone.0 new.1 in
                elim ((so_far.exact l k).0 (inl new.0)) [
                  | inl first ↦ (so_far.exact j l).0 (inr (subst (Contains (k ∷ left)) (sym same) (here k left), subst (MeetBy before l) (sym same) first))
                  | inr second ↦ inl (subst (λ i. MeetBy before i l) (sym same) second.1)
                ]
          ]
          | inr later ↦ (so_far.exact j l).0 (inr (there k j left later.0, later.1))
        ],
        λ some. elim ((so_far.exact j l).1 some) [
          | inl yet ↦ inl ((told j l).1 (inl yet))
          | inr due ↦ elim (member_cases k j left due.0) [
            | inl same ↦ inl ((told j l).1 (inr (so_far.kept l k (subst (MeetBy before l) (sym same) due.1), alone.1 (sym same))))
            | inr later ↦ inr (later, due.1)
          ]
        ],
      );
}
