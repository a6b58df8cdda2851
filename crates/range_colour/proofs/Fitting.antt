-- Registers that were settled, the crossing ones first, are a first fit of their group.
use Rattle.std.proofs.Common.{◌≡◌, ◌≢◌, ℕ, ◌^◌, ◌<◌, ◌↔◌, List, length, get_or, sym, ◌∙◌, inl, inr, arith, bit_and}
use Rattle.std.specs.Int.{bit_at, bit_not, w128}
use Rattle.std.proofs.lemmas.Bool.{cases_eq}
use Rattle.std.proofs.lemmas.Nat.{and_le_l}
use Rattle.std.proofs.lemmas.Nat.Bits.{bit_at-lt, bit_at-zero, bit_at_and, bit_at_not}
use Rattle.micro_isa.specs.declared.program.Line.{Line}
use Rattle.liveness.proofs.Sizes.{below_width}
use Rattle.liveness.proofs.Steps.{crosses_live}
use Rattle.range_colour.specs.FirstFits.{IsEarlier}
use Rattle.range_colour.specs.Groups.{CrossesIn, MeetsIn}
use Rattle.range_colour.specs.Settling.{AreTaken, Before, In, IsColoured, IsGathered, IsSettledTo}
use Rattle.range_colour.specs.Fits.{IsFitBy}
use Rattle.range_colour.proofs.Bits.{both_bits}

-- what meets another is there
pub meets_itself : (code : List Line) (Group : ℕ → Type 0) (j k : ℕ) → MeetsIn code Group j k → MeetsIn code Group j j × MeetsIn code Group k k
meets_itself code Group j k meet = elim meet.3 [
  | inl before ↦ ((meet.0, meet.1, meet.2, inl (before.0, before.0)), (meet.0, meet.1, meet.2, inl (before.1, before.1)))
  | inr after ↦ ((meet.0, meet.1, meet.2, inr (after.0, after.0)), (meet.0, meet.1, meet.2, inr (after.1, after.1)))
]

pub crosses_meets : (code : List Line) (Group : ℕ → Type 0) (k : ℕ) → CrossesIn code Group k → MeetsIn code Group k k
crosses_meets code Group k cross = let live = crosses_live code cross.0 k cross.3 in (cross.0, cross.1, cross.2, inl (live, live))

-- the registers that do not cross
pub others_bits : (registers crossing k : ℕ) → registers < 2 ^ 128 → crossing < 2 ^ 128 → In (bit_and registers (bit_not w128 crossing)) k ↔ (In registers k × (In crossing k → ⊥))
others_bits registers crossing k small small_crossing = (
  λ one.
      let both = both_bits registers (bit_not w128 crossing) k one in
      let inside = below_width registers k small both.0 in
      let flipped = bit_at_not w128 crossing k small_crossing inside in
      (both.0, λ yet. let two = both.1 in omega arith),
  λ some.
      let inside = below_width registers k small some.0 in
      let flipped = bit_at_not w128 crossing k small_crossing inside in
      let low = bit_at-lt crossing k in
      let e = bit_at_and registers (bit_not w128 crossing) k in
      let is = some.0 in
      elim (cases_eq (bit_at crossing k) 1) [ inl yet ↦ absurd (some.1 yet) | inr none ↦ omega arith ],
)

module _ (code : List Line) (Group : ℕ → Type 0) (registers crossing others : ℕ) (meets : List ℕ) (gathered : IsGathered code Group registers crossing meets)
    (is_other : (k : ℕ) → In others k ↔ (In registers k × (In crossing k → ⊥)))
    (none first second : List ℕ) (taken_first taken_second : List ℕ) (above_first above_second : ℕ)
    (settled_first : IsSettledTo meets 0 crossing 128 none first taken_first above_first)
    (settled_second : IsSettledTo meets crossing others 128 first second taken_second above_second)
    (small_crossing : crossing < 2 ^ 128) (small_others : others < 2 ^ 128)
    (inside : (k : ℕ) → In registers k → k < length second) where
  f : ℕ → ℕ
  f k = get_or second k 0

  crosses : (k : ℕ) → In crossing k → CrossesIn code Group k
  crosses k one = (gathered.cross k).0 one

  crosses_not : (k : ℕ) → (In crossing k → ⊥) → CrossesIn code Group k → ⊥
  crosses_not k none cross = none ((gathered.cross k).1 cross)

  other_of : (k : ℕ) → MeetsIn code Group k k → (CrossesIn code Group k → ⊥) → In others k
  other_of k there none = (is_other k).1 ((gathered.there k).1 there, λ one. none (crosses k one))

  apart : (j k : ℕ) → MeetsIn code Group j k → IsEarlier (CrossesIn code Group) j k → f j ≢ f k
  unfolding f
  apart j k meet earlier same =
      let both = meets_itself code Group j k meet in
      let by_bits = (gathered.meet j k).1 meet in
      elim earlier [
        | inl kinds ↦
            let member = other_of k both.1 kinds.1 in
            (settled_second.free k member (below_width others k small_others member)).apart j (inl ((gathered.cross j).1 kinds.0)) by_bits same
        | inr alike ↦ elim alike.0 [
          | inl crossers ↦
              let mine = (gathered.cross k).1 crossers.1 in
              let other = (gathered.cross j).1 crossers.0 in
              (settled_first.free k mine (below_width crossing k small_crossing mine)).apart j (inr (other, alike.1)) by_bits
              (sym (settled_second.kept j other) ∙ same ∙ settled_second.kept k mine)
          | inr neither ↦
              let member = other_of k both.1 neither.1 in
              (settled_second.free k member (below_width others k small_others member)).apart j (inr (other_of j both.0 neither.0, alike.1)) by_bits same
        ]
      ]

  least : (k q : ℕ) → MeetsIn code Group k k → q < f k → (j : ℕ) × MeetsIn code Group j k × IsEarlier (CrossesIn code Group) j k × (f j ≡ q)
  unfolding f
  least k q there less = elim (cases_eq (bit_at crossing k) 1) [
    | inl mine ↦
        let kept = settled_second.kept k mine in
        let found = (settled_first.free k mine (below_width crossing k small_crossing mine)).least q (omega arith) in
        elim found.1 [
          | inl done ↦ absurd (let z = bit_at-zero found.0 in omega arith)
          | inr before ↦
              (found.0, (gathered.meet found.0 k).0 found.2, inr (inl (crosses found.0 before.0, crosses k mine), before.1), settled_second.kept found.0 before.0 ∙ found.3)
        ]
    | inr not_mine ↦
        let member = (is_other k).1 ((gathered.there k).1 there, not_mine) in
        let found = (settled_second.free k member (below_width others k small_others member)).least q less in
        elim found.1 [
          | inl done ↦ (found.0, (gathered.meet found.0 k).0 found.2, inl (crosses found.0 done, crosses_not k not_mine), found.3)
          | inr before ↦
              let other = (is_other found.0).0 before.0 in
              (found.0, (gathered.meet found.0 k).0 found.2, inr (inr (crosses_not found.0 other.1, crosses_not k not_mine), before.1), found.3)
        ]
  ]

  pub is_fit : IsFitBy code Group second above_first above_second
  unfolding f
  is_fit = record {
    first = record { apart = apart; least = least };
    inside = λ k there. inside k ((gathered.there k).1 there);
    private = λ k cross.
        let mine = (gathered.cross k).1 cross in
        let low = settled_first.below k mine (below_width crossing k small_crossing mine) in
        let kept = settled_second.kept k mine in omega arith;
    other = λ k there none.
        let member = other_of k there none in settled_second.below k member (below_width others k small_others member);
    private_reached = elim settled_first.reached [
      | inl zero ↦ inl zero
      | inr some ↦ inr (some.0, crosses some.0 some.1, let kept = settled_second.kept some.0 some.1 in let e = some.3 in omega arith)
    ];
    other_reached = elim settled_second.reached [
      | inl zero ↦ inl zero
      | inr some ↦ let other = (is_other some.0).0 some.1 in inr (some.0, (gathered.there some.0).0 other.0, crosses_not some.0 other.1, some.3)
    ];
  }

-- all crossing registers are settled
pub taken_whole : (those : ℕ) (f : ℕ → ℕ) (taken : List ℕ) → those < 2 ^ 128 → AreTaken (Before 0 those 128) f taken → AreTaken (In those) f taken
taken_whole those f taken small are =
    let whole : (j : ℕ) → In those j → Before 0 those 128 j = λ j one. inr (one, below_width those j small one) in record {
      has = λ q j less.
          let both = are.has q j less in (
            λ one. let p = both.0 one in elim p.0 [ inl done ↦ absurd (let z = bit_at-zero j in omega arith) | inr member ↦ (member.0, p.1) ],
            λ some. both.1 (whole j some.0, some.1),
          );
      within = λ j one. are.within j (whole j one);
    }

pub coloured_fits : (code : List Line) (Group : ℕ → Type 0) (registers crossing : ℕ) (meets places : List ℕ) (p r : ℕ) → IsGathered code Group registers crossing meets
    → IsColoured registers crossing meets places p r → ((k : ℕ) → In registers k → k < length places) → IsFitBy code Group places p r
coloured_fits code Group registers crossing meets places p r gathered coloured inside =
    let le = and_le_l registers (bit_not w128 crossing) in
    let small = coloured.small in
    is_fit code Group registers crossing (bit_and registers (bit_not w128 crossing)) meets gathered
    (λ k. others_bits registers crossing k coloured.small coloured.small_crossing)
    coloured.start coloured.middle places coloured.taken_first coloured.taken_second p r coloured.first coloured.second coloured.small_crossing (omega arith) inside
