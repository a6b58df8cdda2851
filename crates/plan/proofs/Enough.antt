-- A valid plan has as many places as the pressures ask.
use Rattle.std.proofs.Common.{◌≡◌, ◌≢◌, ◌==◌, ℕ, ◌<◌, ◌≤◌, Bool, true, false, List, map, Option, Some, None, Result, Ok, Err, IsOk, length, get_or, Contains, refl, sym, subst, ◌∙◌, ap, inl, inr, arith}
use Rattle.std.specs.Prelude.{is_some, nat_eq, if◌then◌else◌}
use Rattle.std.specs.Cmp.{unsigned_Decides}
use Rattle.std.specs.List.{IsDistinct}
use Rattle.std.proofs.lemmas.Bool.{eqb-true, eq-eqb, cases_eq}
use Rattle.std.proofs.lemmas.List.{get_or-map, length-map}
use Rattle.std.proofs.lemmas.List.Elements.{Contains-get_or}
use Rattle.std.proofs.lemmas.Map.Keys.{IsDistinct-from_apart, apart_from_distinct}
use Rattle.std.proofs.lemmas.Map.Made.{is_member-Decides}
use Rattle.std.proofs.lemmas.Map.Steps.{length-le_from_distinct_below}
use Rattle.std.proofs.lemmas.Option.{slice_get_within, slice_get_cases}
use Rattle.micro_isa.specs.declared.program.Line.{Line}
use Rattle.liveness.specs.Liveness.{LiveIn}
use Rattle.liveness.specs.Sets.{HasSize}
use Rattle.liveness.specs.Surviving.{WritesAt, Stays, IsAfter, Crosses}
use Rattle.liveness.specs.Pressures.{IsPrivatePressure, IsTotalPressure}
use Rattle.liveness.proofs.Steps.{stays_live, crosses_live}
use Rattle.plan.specs.declared.row.Place.{Place}
use Rattle.plan.specs.declared.row.PlanRow.{PlanRow}
use Rattle.plan.specs.declared.row.Plan.{Plan}
use Rattle.plan.specs.declared.fault.PlanFault.{PlanFault}
use Rattle.plan.specs.ValidPlans.{place_in, IsValidRow, IsValidPlan}
use Rattle.plan.specs.Faults.{HasPlace, IsPlanChecked}
use Rattle.plan.proofs.Entries.{here, placed}
use Rattle.plan.proofs.Places.{one_written}
use Rattle.plan.proofs.Checked.{one_entry}

-- a list of distinct numbers, each at a place of its own below n, is at most n long
pub pigeons : (f : ℕ → ℕ) (xs : List ℕ) (n : ℕ) → IsDistinct nat_eq xs → ((k : ℕ) → Contains xs k → f k < n)
    → ((k l : ℕ) → Contains xs k → Contains xs l → f k ≡ f l → k ≡ l) → length xs ≤ n
pigeons f xs n distinct low apart =
    let long = length-map xs f in
    let le = length-le_from_distinct_below (map f xs) n (IsDistinct-from_apart nat_eq (map f xs) (λ i j d less inside.
    off i j d less inside (nat_eq (get_or (map f xs) i d) (get_or (map f xs) j d)) refl))
    (λ q is. let has = (is_member-Decides unsigned_Decides (map f xs) q).0 is in
    let at = get_or-map f xs has.0 0 q (omega arith) in
    let low_at = low (get_or xs has.0 0) (Contains-get_or xs has.0 0 (omega arith)) in
    let same = has.2 in
    omega arith) in
    omega arith
  where
    off : (i j d : ℕ) → i < j → j < length (map f xs) → (b : Bool) → nat_eq (get_or (map f xs) i d) (get_or (map f xs) j d) ≡ b → b ≡ false
    off i j d less inside false e = refl
    off i j d less inside true e =
        let long = length-map xs f in
        let first = get_or-map f xs i 0 d (omega arith) in
        let second = get_or-map f xs j 0 d (omega arith) in
        let same = eqb-true _ _ e in
        let one = apart (get_or xs i 0) (get_or xs j 0) (Contains-get_or xs i 0 (omega arith)) (Contains-get_or xs j 0 (omega arith)) (sym first ∙ same ∙ second) in
        let differ = apart_from_distinct nat_eq xs i j 0 distinct less (omega arith) in
        let on = eq-eqb _ _ one in
        absurd (cc)

pub sized_below : (S : ℕ → Type 0) (f : ℕ → ℕ) (m n : ℕ) → HasSize S m → ((k : ℕ) → S k → f k < n) → ((k l : ℕ) → S k → S l → f k ≡ f l → k ≡ l) → m ≤ n
sized_below S f m n size low apart =
    let le = pigeons f size.0 n size.1 (λ k has. low k ((size.2 k).0 has)) (λ k l a b. apart k l ((size.2 k).0 a) ((size.2 l).0 b)) in
    let e = size.3 in
    omega arith

module _ (code : List Line) (p r i : ℕ) (row : PlanRow) (valid : IsValidRow code p r i row) where
  live_place : (k : ℕ) → LiveIn code i k → HasPlace row.places k (place_in row.places k)
  live_place k live = placed row.places k ((valid.lists.exact k).1 live)

  pub live_apart : (k l : ℕ) → LiveIn code i k → LiveIn code i l → place_in row.places k ≡ place_in row.places l → k ≡ l
  live_apart k l a b e =
      let same = one_entry row.places valid.apart _ _ (live_place k a) (live_place l b) e in
      ap (λ (s : Place). s.register.0) same

  pub before_fits : (n : ℕ) → HasSize (LiveIn code i) n → n ≤ r
  before_fits n size = sized_below (LiveIn code i) (place_in row.places) n r size (λ k live. valid.in_range _ (live_place k live)) live_apart

  pub cross_fits : (n : ℕ) → HasSize (Crosses code i) n → n ≤ p
  cross_fits n size =
      sized_below (Crosses code i) (place_in row.places) n p size valid.private (λ k l a b e. live_apart k l (crosses_live code i k a) (crosses_live code i l b) e)

  -- what has a value after the instruction: survivors where they were, the written one at the write's place
  module _ (w d : ℕ) (wrote : row.write ≡ Some w) (writes : WritesAt code i d) where
    after_place : ℕ → ℕ
    after_place k = if k == d then w else place_in row.places k

    at_written : (k : ℕ) → k ≡ d → after_place k ≡ w
    unfolding after_place
    at_written k same = ap (λ b. if b then w else place_in row.places k) (eq-eqb k d same)

    at_others : (k : ℕ) → k ≢ d → after_place k ≡ place_in row.places k
    unfolding after_place
    at_others k other = by (k == d) refl
      where
        by : (b : Bool) → (k == d) ≡ b → (if b then w else place_in row.places k) ≡ place_in row.places k
        by true e = absurd (other (eqb-true k d e))
        by false e = refl

    survivor : (k : ℕ) → IsAfter code i k → k ≢ d → Stays code i k
    survivor k after other = elim after [
      | inl out ↦ (out, λ at. other (one_written code i k d at writes))
      | inr at ↦ absurd (other (one_written code i k d at writes))
    ]

    written_fits : (n : ℕ) → HasSize (IsAfter code i) n → n ≤ r
    written_fits n size = sized_below (IsAfter code i) after_place n r size
        (λ k after. elim (cases_eq k d) [
          | inl same ↦ subst (λ x. x < r) (sym (at_written k same)) (valid.write_in_range w wrote)
          | inr other ↦ subst (λ x. x < r) (sym (at_others k other)) (valid.in_range _ (live_place k (stays_live code i k (survivor k after other))))
        ])
        (λ k l a b e. elim (cases_eq k d) [
          | inl k_d ↦ elim (cases_eq l d) [
            | inl l_d ↦ k_d ∙ sym l_d
            | inr other ↦ absurd (valid.write_apart l w (survivor l b other) wrote (sym (at_others l other) ∙ sym e ∙ at_written k k_d))
          ]
          | inr k_other ↦ elim (cases_eq l d) [
            | inl l_d ↦ absurd (valid.write_apart k w (survivor k a k_other) wrote (sym (at_others k k_other) ∙ e ∙ at_written l l_d))
            | inr l_other ↦ live_apart k l (stays_live code i k (survivor k a k_other)) (stays_live code i l (survivor l b l_other))
                (sym (at_others k k_other) ∙ e ∙ at_others l l_other)
          ]
        ])

  after_fits_by : (n : ℕ) → HasSize (IsAfter code i) n → (o : Option ℕ) → row.write ≡ o → n ≤ r
  after_fits_by n size None e =
      let none : (k : ℕ) → WritesAt code i k → ⊥ = λ k at.
      let some = valid.writes.1 (k, at) in
      absurd (let off : is_some row.write ≡ false = ap is_some e in cc) in
      let stays : (k : ℕ) → IsAfter code i k → LiveIn code i k = λ k after. elim after [
        | inl out ↦ stays_live code i k (out, none k)
        | inr at ↦ absurd (none k at)
      ] in
      sized_below (IsAfter code i) (place_in row.places) n r size
      (λ k after. valid.in_range _ (live_place k (stays k after)))
      (λ k l a b same. live_apart k l (stays k a) (stays l b) same)
  after_fits_by n size (Some w) e =
      let at = valid.writes.0 (ap is_some e) in
      written_fits w at.0 e at.1 n size

  pub after_fits : (n : ℕ) → HasSize (IsAfter code i) n → n ≤ r
  after_fits n size = after_fits_by n size row.write refl

row_there : (code : List Line) (plan : Plan) → IsValidPlan code plan → (i : ℕ) → i < length code → (row : PlanRow) × IsValidRow code plan.p plan.r i row
row_there code plan valid i inside = elim (slice_get_cases plan.rows i).1 [
  | inr past ↦ absurd (let le = past.0 in let e = valid.one_each in omega arith)
  | inl here ↦ (here.0, valid.rows i here.0 here.2)
]

-- no smaller sizes have a valid plan
pub enough_places : (code : List Line) (plan : Plan) (n m : ℕ) → 0 < length code → IsValidPlan code plan → IsPrivatePressure code n → IsTotalPressure code m
    → (n ≤ plan.p) × (m ≤ plan.r)
enough_places code plan n m some valid private total = (
  elim private.reached [
    | inl entry ↦
        let at = row_there code plan valid 0 some in
        let crosses : HasSize (Crosses code 0) n = (
          entry.0,
          entry.1,
          (λ k. (
            λ has. inr (refl, (entry.2 k).0 has),
            λ cross. (entry.2 k).1 (crosses_live code 0 k cross),
          )),
          entry.3,
        ) in
        cross_fits code plan.p plan.r 0 at.0 at.1 n crosses
    | inr stay ↦
        let inside = slice_get_within code stay.0 stay.1.0 stay.1.1 in
        let at = row_there code plan valid stay.0 inside in
        sized_below (Stays code stay.0) (place_in at.0.places) n plan.p stay.2 (λ k stays. at.1.private k (inl (stay.1, stays)))
        (λ k l a b e. live_apart code plan.p plan.r stay.0 at.0 at.1 k l (stays_live code stay.0 k a) (stays_live code stay.0 l b) e)
  ],
  let reached = total.reached in
      let at = row_there code plan valid reached.0 reached.1 in
      elim reached.2 [
        | inl before ↦ before_fits code plan.p plan.r reached.0 at.0 at.1 m before
        | inr after ↦ after_fits code plan.p plan.r reached.0 at.0 at.1 m after
      ],
)

pub enough : (code : List Line) (plan : Plan) (result : Result Unit PlanFault) → 0 < length code → IsPlanChecked code plan result → IsOk result
    → (n m : ℕ) → IsPrivatePressure code n → IsTotalPressure code m → (n ≤ plan.p) × (m ≤ plan.r)
enough code plan (Ok done) some checked ok n m private total = enough_places code plan n m some checked private total
enough code plan (Err fault) some checked ok n m private total = absurd (cc)
