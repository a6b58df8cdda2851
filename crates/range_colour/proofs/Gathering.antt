-- What meets in a group of instructions, one instruction more.
use Rattle.std.proofs.Common.{◌≡◌, ℕ, ◌+◌, ◌<◌, ◌⊎◌, ◌↔◌, List, length, get_or, sym, subst, refl, inl, inr, arith, bit_or}
use Rattle.std.proofs.lemmas.Bool.{cases_eq}
use Rattle.std.proofs.lemmas.Nat.Bits.{bit_at-zero}
use Rattle.micro_isa.specs.declared.program.Line.{Line}
use Rattle.liveness.specs.Liveness.{LiveIn}
use Rattle.liveness.specs.Sets.{IsSetOf}
use Rattle.liveness.specs.Surviving.{IsAfter, Crosses}
use Rattle.range_colour.specs.Groups.{Among, CrossesIn, InUse, MeetsIn}
use Rattle.range_colour.specs.Settling.{AmongFirst, HalfMeet, In, IsGathered, MeetBy}
use Rattle.range_colour.proofs.Bits.{or_bits}

-- the sets of a group of instructions, where what meets is known one way round
pub record IsHalfGathered (code : List Line) (Group : ℕ → Type 0) (registers crossing : ℕ) (meets : List ℕ) : Type 0 where
  pub long : length meets ≡ 128
  pub there : (k : ℕ) → In registers k ↔ MeetsIn code Group k k
  pub meet : (j k : ℕ) → HalfMeet meets j k ↔ MeetsIn code Group j k
  pub cross : (k : ℕ) → In crossing k ↔ CrossesIn code Group k

among_more : (list : List ℕ) (at i : ℕ) → AmongFirst list (at + 1) i ↔ (AmongFirst list at i ⊎ (get_or list at 0 ≡ i))
among_more list at i = (
  λ some. elim (cases_eq some.0 at) [
    | inl same ↦ inr (subst (λ m. get_or list m 0 ≡ i) same some.2)
    | inr other ↦ inl (some.0, let less = some.1 in omega arith, some.2)
  ],
  λ either. elim either [
    | inl before ↦ (before.0, let less = before.1 in omega arith, before.2)
    | inr here ↦ (at, omega arith, here)
  ],
)

pub none_gathered : (code : List Line) (list meets : List ℕ) → length meets ≡ 128 → ((j k : ℕ) → In (get_or meets k 0) j → ⊥) → IsHalfGathered code (AmongFirst list 0) 0 0 meets
none_gathered code list meets long none = record {
  long = long;
  there = λ k. (λ one. absurd (let z = bit_at-zero k in omega arith), λ some. absurd (let less = some.2.1 in omega arith));
  meet = λ j k. (elim [ inl one ↦ absurd (none j k one) | inr one ↦ absurd (none k j one) ], λ some. absurd (let less = some.2.1 in omega arith));
  cross = λ k. (λ one. absurd (let z = bit_at-zero k in omega arith), λ some. absurd (let less = some.2.1 in omega arith));
}

module _ (code : List Line) (list : List ℕ) (at : ℕ) (inside : get_or list at 0 < length code) where
  abbrev here : ℕ
  here = get_or list at 0

  meets_more : (j k : ℕ) → MeetsIn code (AmongFirst list (at + 1)) j k ↔ (MeetsIn code (AmongFirst list at) j k ⊎ InUse code here j k)
  meets_more j k = (
    λ some. elim ((among_more list at some.0).0 some.2) [
      | inl before ↦ inl (some.0, some.1, before, some.3)
      | inr same ↦ inr (subst (λ i. InUse code i j k) (sym same) some.3)
    ],
    λ either. elim either [
      | inl before ↦ (before.0, before.1, (among_more list at before.0).1 (inl before.2), before.3)
      | inr now ↦ (here, inside, (among_more list at here).1 (inr refl), now)
    ],
  )

  crosses_more : (k : ℕ) → CrossesIn code (AmongFirst list (at + 1)) k ↔ (CrossesIn code (AmongFirst list at) k ⊎ Crosses code here k)
  crosses_more k = (
    λ some. elim ((among_more list at some.0).0 some.2) [
      | inl before ↦ inl (some.0, some.1, before, some.3)
      | inr same ↦ inr (subst (λ i. Crosses code i k) (sym same) some.3)
    ],
    λ either. elim either [
      | inl before ↦ (before.0, before.1, (among_more list at before.0).1 (inl before.2), before.3)
      | inr cross ↦ (here, inside, (among_more list at here).1 (inr refl), cross)
    ],
  )

  pub gathered_more : (registers crossing before after cross : ℕ) (old middle new : List ℕ) → IsHalfGathered code (AmongFirst list at) registers crossing old
      → IsSetOf (LiveIn code here) before → IsSetOf (IsAfter code here) after → IsSetOf (Crosses code here) cross
      → ((j k : ℕ) → HalfMeet middle j k ↔ (HalfMeet old j k ⊎ (In before j × In before k)))
      → ((j k : ℕ) → HalfMeet new j k ↔ (HalfMeet middle j k ⊎ (In after j × In after k)))
      → length new ≡ 128
      → IsHalfGathered code (AmongFirst list (at + 1)) (bit_or registers (bit_or before after)) (bit_or crossing cross) new
  gathered_more registers crossing before after cross old middle new so_far live_in is_after crosses first second long = record {
    long = long;
    there = λ k.
        let more = meets_more k k in
        let outer = or_bits registers (bit_or before after) k in
        let inner = or_bits before after k in (
          λ one. more.1 (elim (outer.0 one) [
            | inl yet ↦ inl ((so_far.there k).0 yet)
            | inr now ↦ inr (elim (inner.0 now) [ inl b ↦ let x = (live_in.exact k).0 b in inl (x, x) | inr a ↦ let x = (is_after.exact k).0 a in inr (x, x) ])
          ]),
          λ some. outer.1 (elim (more.0 some) [
            | inl yet ↦ inl ((so_far.there k).1 yet)
            | inr now ↦ inr (inner.1 (elim now [ inl b ↦ inl ((live_in.exact k).1 b.0) | inr a ↦ inr ((is_after.exact k).1 a.0) ]))
          ]),
        );
    meet = λ j k.
        let more = meets_more j k in (
          λ one. more.1 (elim ((second j k).0 one) [
            | inl middle ↦ elim ((first j k).0 middle) [
              | inl yet ↦ inl ((so_far.meet j k).0 yet)
              | inr b ↦ inr (inl ((live_in.exact j).0 b.0, (live_in.exact k).0 b.1))
            ]
            | inr a ↦ inr (inr ((is_after.exact j).0 a.0, (is_after.exact k).0 a.1))
          ]),
          λ some. (second j k).1 (elim (more.0 some) [
            | inl yet ↦ inl ((first j k).1 (inl ((so_far.meet j k).1 yet)))
            | inr now ↦ elim now [
              | inl b ↦ inl ((first j k).1 (inr ((live_in.exact j).1 b.0, (live_in.exact k).1 b.1)))
              | inr a ↦ inr ((is_after.exact j).1 a.0, (is_after.exact k).1 a.1)
            ]
          ]),
        );
    cross = λ k.
        let more = crosses_more k in
        let both = or_bits crossing cross k in (
          λ one. more.1 (elim (both.0 one) [ inl yet ↦ inl ((so_far.cross k).0 yet) | inr now ↦ inr ((crosses.exact k).0 now) ]),
          λ some. both.1 (elim (more.0 some) [ inl yet ↦ inl ((so_far.cross k).1 yet) | inr now ↦ inr ((crosses.exact k).1 now) ]),
        );
  }

-- and then both ways round, over all of the list
pub gathered_whole : (code : List Line) (list : List ℕ) (n registers crossing : ℕ) (half whole : List ℕ) → n ≡ length list → IsHalfGathered code (AmongFirst list n) registers crossing half
    → ((j k : ℕ) → MeetBy whole j k ↔ (MeetBy half j k ⊎ (In registers j × MeetBy half k j))) → length whole ≡ 128 → IsGathered code (Among list) registers crossing whole
gathered_whole code list n registers crossing half whole end gathered closed long =
    let so_far = subst (λ m. IsHalfGathered code (AmongFirst list m) registers crossing half) end gathered in record {
      long = long;
      there = so_far.there;
      meet = λ j k. (
        λ one. (so_far.meet j k).0 (elim ((closed j k).0 one) [ inl first ↦ inl first | inr second ↦ inr second.1 ]),
        λ some. (closed j k).1 (elim ((so_far.meet j k).1 some) [
          | inl first ↦ inl first
          | inr second ↦ inr ((so_far.there j).1 (some.0, some.1, some.2, by some.0 j k some.3), second)
        ]),
      );
      cross = so_far.cross;
    }
  where
    by : (i j k : ℕ) → InUse code i j k → InUse code i j j
    by i j k (inl both) = inl (both.0, both.0)
    by i j k (inr both) = inr (both.0, both.0)
