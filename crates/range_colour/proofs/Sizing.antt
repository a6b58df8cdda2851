-- What a fit tells of sizes, and of other names for its group.
use Rattle.std.proofs.Common.{◌≡◌, ◌≢◌, ℕ, ◌<◌, ◌≤◌, ◌⊎◌, ◌↔◌, List, length, get_or, sym, inl, inr, arith}
use Rattle.std.specs.Prelude.{slice_index}
use Rattle.std.proofs.lemmas.Bool.{cases_lt}
use Rattle.micro_isa.specs.declared.program.Line.{Line}
use Rattle.range_colour.specs.FirstFits.{IsEarlier}
use Rattle.range_colour.specs.Groups.{Among, CrossesIn, Every, MeetsIn}
use Rattle.range_colour.specs.PlacedPlans.{DoesNotFit, Fits, IsFitOf}
use Rattle.range_colour.specs.Fits.{IsFitBy}
use Rattle.range_colour.proofs.Fitting.{crosses_meets}

module _ (code : List Line) (Group : ℕ → Type 0) (places : List ℕ) (p r : ℕ) (fit : IsFitBy code Group places p r) where
  pub fits_in : (m n : ℕ) → p ≤ m → r ≤ n → Fits code Group (slice_index places) m n
  fits_in m n le_p le_r k there = (
    λ cross. let low = fit.private k cross in omega arith,
    λ none. let low = fit.other k there none in omega arith,
  )

  pub out_of_private : (m n : ℕ) → m < p → DoesNotFit code Group (slice_index places) m n
  out_of_private m n less = elim fit.private_reached [
    | inl none ↦ absurd (omega arith)
    | inr some ↦ (some.0, crosses_meets code Group some.0 some.1, inl (some.1, let e = some.2 in omega arith))
  ]

  pub out_of_all : (m n : ℕ) → n < r → DoesNotFit code Group (slice_index places) m n
  out_of_all m n less = elim fit.other_reached [
    | inl none ↦ absurd (omega arith)
    | inr some ↦ (some.0, some.1, inr (some.2, let e = some.3 in omega arith))
  ]

-- a place is below r, whether its register crosses or not
pub below_all : (code : List Line) (Group : ℕ → Type 0) (f : ℕ → ℕ) (p r k : ℕ) → p ≤ r → Fits code Group f p r → MeetsIn code Group k k → f k < r
below_all code Group f p r k order fits there = elim (cases_lt (f k) r) [
  | inl less ↦ less
  | inr more ↦ absurd (
      let none : CrossesIn code Group k → ⊥ = λ cross. let low = (fits k there).0 cross in omega arith in
      let low = (fits k there).1 none in omega arith)
]

-- no two that meet have one place
pub places_apart : (code : List Line) (Group : ℕ → Type 0) (f : ℕ → ℕ) (j k : ℕ) → IsFitOf code Group f → MeetsIn code Group j k → MeetsIn code Group k j → j ≢ k → f j ≢ f k
places_apart code Group f j k fit meet back differ same =
    let C = CrossesIn code Group in
    let not_j : IsEarlier C j k → ⊥ = λ earlier. fit.apart j k meet earlier same in
    let not_k : IsEarlier C k j → ⊥ = λ earlier. fit.apart k j back earlier (sym same) in
    let one_before : (C j × C k) ⊎ ((C j → ⊥) × (C k → ⊥)) → ⊥ = λ alike. elim (cases_lt j k) [
      | inl less ↦ not_j (inr (alike, less))
      | inr more ↦ not_k (inr (elim alike [ inl both ↦ inl (both.1, both.0) | inr neither ↦ inr (neither.1, neither.0) ], omega arith))
    ] in
    let none_j : C j → ⊥ = λ cross. not_j (inl (cross, λ other. one_before (inl (cross, other)))) in
    let none_k : C k → ⊥ = λ cross. not_k (inl (cross, λ other. one_before (inl (other, cross)))) in
    one_before (inr (none_j, none_k))

-- groups with the same instructions have the same fits
module _ (code : List Line) (G H : ℕ → Type 0) (same : (i : ℕ) → i < length code → G i ↔ H i) where
  pub meets_same : (j k : ℕ) → MeetsIn code G j k ↔ MeetsIn code H j k
  meets_same j k = (
    λ meet. (meet.0, meet.1, (same meet.0 meet.1).0 meet.2, meet.3),
    λ meet. (meet.0, meet.1, (same meet.0 meet.1).1 meet.2, meet.3),
  )

  pub crosses_same : (k : ℕ) → CrossesIn code G k ↔ CrossesIn code H k
  crosses_same k = (
    λ cross. (cross.0, cross.1, (same cross.0 cross.1).0 cross.2, cross.3),
    λ cross. (cross.0, cross.1, (same cross.0 cross.1).1 cross.2, cross.3),
  )

  earlier_to : (j k : ℕ) → IsEarlier (CrossesIn code G) j k → IsEarlier (CrossesIn code H) j k
  earlier_to j k earlier = elim earlier [
    | inl kinds ↦ inl ((crosses_same j).0 kinds.0, λ cross. kinds.1 ((crosses_same k).1 cross))
    | inr alike ↦ inr (
      elim alike.0 [
        | inl both ↦ inl ((crosses_same j).0 both.0, (crosses_same k).0 both.1)
        | inr neither ↦ inr (λ cross. neither.0 ((crosses_same j).1 cross), λ cross. neither.1 ((crosses_same k).1 cross))
      ],
      alike.1,
    )
  ]

  earlier_from : (j k : ℕ) → IsEarlier (CrossesIn code H) j k → IsEarlier (CrossesIn code G) j k
  earlier_from j k earlier = elim earlier [
    | inl kinds ↦ inl ((crosses_same j).1 kinds.0, λ cross. kinds.1 ((crosses_same k).0 cross))
    | inr alike ↦ inr (
      elim alike.0 [
        | inl both ↦ inl ((crosses_same j).1 both.0, (crosses_same k).1 both.1)
        | inr neither ↦ inr (λ cross. neither.0 ((crosses_same j).0 cross), λ cross. neither.1 ((crosses_same k).0 cross))
      ],
      alike.1,
    )
  ]

  pub fit_same : (f : ℕ → ℕ) → IsFitOf code G f → IsFitOf code H f
  fit_same f fit = record {
    apart = λ j k meet earlier. fit.apart j k ((meets_same j k).1 meet) (earlier_from j k earlier);
    least = λ k q there less.
        let found = fit.least k q ((meets_same k k).1 there) less in
        (found.0, (meets_same found.0 k).0 found.1, earlier_to found.0 k found.2, found.3);
  }

  pub fit_by_same : (places : List ℕ) (p r : ℕ) → IsFitBy code G places p r → IsFitBy code H places p r
  fit_by_same places p r fit = record {
    first = fit_same (slice_index places) fit.first;
    inside = λ k there. fit.inside k ((meets_same k k).1 there);
    private = λ k cross. fit.private k ((crosses_same k).1 cross);
    other = λ k there none. fit.other k ((meets_same k k).1 there) (λ cross. none ((crosses_same k).0 cross));
    private_reached = elim fit.private_reached [ inl none ↦ inl none | inr some ↦ inr (some.0, (crosses_same some.0).0 some.1, some.2) ];
    other_reached = elim fit.other_reached [
      | inl none ↦ inl none
      | inr some ↦ inr (some.0, (meets_same some.0 some.0).0 some.1, λ cross. some.2 ((crosses_same some.0).1 cross), some.3)
    ];
  }

-- a list with all instructions has every one
pub among_all : (code : List Line) (list : List ℕ) → length list ≡ length code → ((k : ℕ) → k < length code → get_or list k 0 ≡ k) → (i : ℕ) → i < length code → Among list i ↔ Every i
among_all code list whole each i less = (λ some. tt, λ every. (i, omega arith, each i less))
