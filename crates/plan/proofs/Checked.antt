-- A row without a fault is valid, and a fault refutes a plan.
use Rattle.std.proofs.Common.{◌≡◌, ◌≢◌, ℕ, ◌+◌, ◌<◌, ◌↔◌, Bool, true, false, List, [], ◌∷◌, map, Option, Some, None, Result, Ok, Err, IsOk, length, get_or, slice_get, Contains, refl, sym, subst, ◌∙◌, ap, ◌⊎◌, inl, inr, arith}
use Rattle.std.specs.Prelude.{is_some, nat_eq}
use Rattle.std.specs.List.{IsDistinct}
use Rattle.std.proofs.lemmas.Bool.{eqb-true, eq-eqb, cases_eq}
use Rattle.std.proofs.lemmas.Bool.Decides.{leb_tells}
use Rattle.std.proofs.lemmas.List.{get_or-map, get_or_default, length-map}
use Rattle.std.proofs.lemmas.List.Elements.{Contains-get_or}
use Rattle.std.proofs.lemmas.Map.Keys.{IsDistinct-from_apart, apart_from_distinct}
use Rattle.std.proofs.lemmas.Option.{same_Some, slice_get_cases, slice_get_within, get_or_from_slice_get}
use Rattle.micro_isa.specs.declared.program.Line.{Line}
use Rattle.micro_isa.specs.declared.program.VReg.{VReg}
use Rattle.micro_isa.specs.Columns.{written_by}
use Rattle.liveness.specs.Liveness.{LiveIn}
use Rattle.liveness.specs.Sets.{IsSetOf}
use Rattle.liveness.specs.Surviving.{WritesAt}
use Rattle.liveness.proofs.Steps.{stays_live, crosses_live}
use Rattle.plan.specs.declared.row.Place.{Place}
use Rattle.plan.specs.declared.row.PlanRow.{PlanRow}
use Rattle.plan.specs.declared.row.Plan.{Plan}
use Rattle.plan.specs.declared.fault.PlanFault.{PlanFault}
use Rattle.plan.specs.declared.fault.PlanFault.TheVariants.{Sizes, Length, Missing, Extra, ExtraWrite, Range, Twice, Crossing}
use Rattle.plan.specs.ValidPlans.{registers_of, place_in, IsValidRow, IsValidPlan}
use Rattle.plan.specs.Faults.{Nowhere, HasPlace, IsMissing, IsAbove, IsExtra, IsListing, IsInRange, HaveOwnPlaces, IsWriteApart, IsExposed, IsPlacing, HasExtraWrite, HasSizes, IsFirstOfRow, IsFirstOfRows, IsFirstFault, AreValidBelow, AreRowsChecked, IsPlacingChecked, IsRowChecked, IsPlanChecked}
use Rattle.plan.specs.Finding.{Rises}
use Rattle.plan.proofs.Entries.{here, there, no_member, member_cases, placed, place_once, index_rises, rises_by_index}
use Rattle.plan.proofs.Places.{list_rises, entry_live}

-- whether a number is in a list
is_listed : (xs : List ℕ) (k : ℕ) → Contains xs k ⊎ (Contains xs k → ⊥)
is_listed [] k = inr (no_member k)
is_listed (x ∷ xs) k = elim (cases_eq x k) [
  | inl same ↦ inl (subst (λ n. Contains (x ∷ xs) n) same (here x xs))
  | inr other ↦ elim (is_listed xs k) [
    | inl rest ↦ inl (there x k xs rest)
    | inr none ↦ inr (λ has. elim (member_cases x k xs has) [ inl same ↦ other same | inr rest ↦ none rest ])
  ]
]

listed_entry : (qs : List Place) (k : ℕ) → Contains (registers_of qs) k → (q : Place) × Contains qs q × (q.register.0 ≡ k)
listed_entry qs k has = (record { register = record { 0 = k }; place = place_in qs k }, placed qs k has, refl)

-- distinct places, by entries

module _ (places : List Place) (rises : Rises places) (own : HaveOwnPlaces places) where
  apart_at : (a b : ℕ) (d : Place) → a < b → b < length places → (get_or places a d).place ≡ (get_or places b d).place → ⊥
  apart_at a b d less inside same =
      let one : Place = get_or places a d in
      let two : Place = get_or places b d in
      let one_in = Contains-get_or places a d (omega arith) in
      let two_in = Contains-get_or places b d inside in
      let below = index_rises places rises a b less (let e = length-map places (λ (q : Place). q.register.0) in omega arith) in
      let e = get_or-map (λ (q : Place). q.register.0) places a d 0 (omega arith) in
      let f = get_or-map (λ (q : Place). q.register.0) places b d 0 inside in
      own one.register.0 two.register.0 one.place (omega arith, one_in, subst (λ n. HasPlace places two.register.0 n) (sym same) two_in)

  pub distinct : IsDistinct nat_eq (map (λ q. q.place) places)
  distinct = IsDistinct-from_apart nat_eq (map (λ q. q.place) places) (λ i j d less inside.
      by i j d less inside (nat_eq (get_or (map (λ q. q.place) places) i d) (get_or (map (λ q. q.place) places) j d)) refl)
    where
      any : ℕ → Place
      any d = record { register = record { 0 = 0 }; place = d }

      by : (i j d : ℕ) → i < j → j < length (map (λ q. q.place) places) → (b : Bool)
          → nat_eq (get_or (map (λ q. q.place) places) i d) (get_or (map (λ q. q.place) places) j d) ≡ b → b ≡ false
      by i j d less inside false e = refl
      by i j d less inside true e =
          let long = length-map places (λ (q : Place). q.place) in
          let same = eqb-true _ _ e in
          let first = get_or-map (λ (q : Place). q.place) places i (any d) d (omega arith) in
          let second = get_or-map (λ (q : Place). q.place) places j (any d) d (omega arith) in
          absurd (apart_at i j (any d) less (omega arith) (sym first ∙ same ∙ second))

-- two entries of one place are one, where places are distinct
pub one_entry : (qs : List Place) → IsDistinct nat_eq (map (λ q. q.place) qs) → (q s : Place) → Contains qs q → Contains qs s → q.place ≡ s.place → q ≡ s
one_entry qs distinct q s q_in s_in same = elim (cases_eq q_in.0 s_in.0) [
  | inl at ↦ sym q_in.2 ∙ get_or_default qs q_in.0 q s q_in.1 ∙ ap (λ a. get_or qs a s) at ∙ s_in.2
  | inr other ↦ elim (leb_tells s_in.0 q_in.0) [
    | inl le ↦ absurd (apart s_in.0 q_in.0 s q (let l = le.1 in omega arith) q_in.1 s_in.2 q_in.2 (sym same))
    | inr less ↦ absurd (apart q_in.0 s_in.0 q s less.1 s_in.1 q_in.2 s_in.2 same)
  ]
]
  where
    apart : (a b : ℕ) (c d : Place) → a < b → b < length qs → get_or qs a c ≡ c → get_or qs b d ≡ d → c.place ≡ d.place → ⊥
    apart a b c d less inside at_a at_b e =
        let long = length-map qs (λ (u : Place). u.place) in
        let off = apart_from_distinct nat_eq (map (λ u. u.place) qs) a b 0 distinct less (omega arith) in
        let first = get_or-map (λ (u : Place). u.place) qs a c 0 (omega arith) ∙ ap (λ (u : Place). u.place) at_a in
        let second = get_or-map (λ (u : Place). u.place) qs b d 0 inside ∙ ap (λ (u : Place). u.place) at_b in
        let on = eq-eqb _ _ (first ∙ e ∙ sym second) in
        absurd (cc)

-- a row without a fault

module _ (code : List Line) (p r i : ℕ) (places : List Place) (write : Option ℕ) (before : ℕ)
    (is : IsSetOf (LiveIn code i) before) (listing : IsListing code i places write) (placing : IsPlacing code p r i places write)
    (writes : ((k : ℕ) × WritesAt code i k) ⊎ Nowhere (WritesAt code i)) where
  live_listed : (k : ℕ) → LiveIn code i k → Contains (registers_of places) k
  live_listed k live = elim (is_listed (registers_of places) k) [
    | inl has ↦ has
    | inr none ↦ absurd (listing.all k (inl (live, none)))
  ]

  listed_live : (k : ℕ) → Contains (registers_of places) k → LiveIn code i k
  listed_live k has =
      let entry = listed_entry places k has in
      subst (λ n. LiveIn code i n) entry.2 (entry_live code i places write listing before is entry.0 entry.1)

  has_write : (o : Option ℕ) → write ≡ o → (is_some o ≡ true) ↔ ((k : ℕ) × WritesAt code i k)
  has_write None e = ((λ never. absurd (cc)), λ at. absurd (listing.all at.0 (inr (at.1, e))))
  has_write (Some w) e = (
    (λ _. elim writes [
      | inl at ↦ at
      | inr none ↦ absurd (listing.no_more ((λ is_none. absurd (let o : Some w ≡ None = sym e ∙ is_none in cc)), none))
    ]),
    λ at. refl,
  )

  write_low : (w : ℕ) → write ≡ Some w → w < r
  write_low w e = elim writes [
    | inl at ↦ elim (leb_tells r w) [
      | inl over ↦ absurd (placing.in_range at.0 w (inr (at.1, e), over.1))
      | inr less ↦ less.1
    ]
    | inr none ↦ absurd (listing.no_more ((λ is_none. absurd (let o : Some w ≡ None = sym e ∙ is_none in cc)), none))
  ]

  pub row_valid : (row : PlanRow) → row.places ≡ places → row.write ≡ write → IsValidRow code p r i row
  row_valid row same_places same_write =
      let rises = list_rises code i places write listing in
      let valid : IsValidRow code p r i (record { places = places; write = write }) = record {
        lists = record { exact = λ k. (listed_live k, live_listed k); rising = index_rises places rises };
        writes = has_write write refl;
        in_range = λ q has. elim (leb_tells r q.place) [
          | inl over ↦ absurd (placing.in_range q.register.0 q.place (inl has, over.1))
          | inr less ↦ less.1
        ];
        write_in_range = write_low;
        apart = distinct places rises placing.own;
        write_apart = λ k w stays e same.
            placing.apart w k (stays, subst (λ x. HasPlace places k x) same (placed places k (live_listed k (stays_live code i k stays))), e);
        private = λ k crosses.
            let has = placed places k (live_listed k (crosses_live code i k crosses)) in
            elim (leb_tells p (place_in places k)) [
              | inl over ↦ absurd (placing.private k (place_in places k) (crosses, has, over.1))
              | inr less ↦ less.1
            ];
      } in
      subst (λ (s : PlanRow). IsValidRow code p r i s) (λ j. record { places = sym same_places j; write = sym same_write j }) valid

-- an instruction writes a register, or none
pub writes_or_not : (code : List Line) (i : ℕ) → i < length code → ((k : ℕ) × WritesAt code i k) ⊎ Nowhere (WritesAt code i)
writes_or_not code i inside = elim (slice_get_cases code i).1 [
  | inr past ↦ absurd (let le = past.0 in omega arith)
  | inl here ↦ by here.0 here.2 (written_by here.0.instr) refl
]
  where
    by : (line : Line) → slice_get code i ≡ Some line → (o : Option VReg) → written_by line.instr ≡ o → ((k : ℕ) × WritesAt code i k) ⊎ Nowhere (WritesAt code i)
    by line is (Some register) e = inl (register.0, (line, is, e))
    by line is None e = inr (λ k at.
        let same = same_Some at.0 line (sym at.1 ∙ is) in
        let writes : None ≡ Some (record { 0 = k }) = sym e ∙ ap (λ (l : Line). written_by l.instr) (sym same) ∙ at.2 in
        absurd (cc))

pub row_checked : (code : List Line) (p r i : ℕ) (row : PlanRow) (places : List Place) (before : ℕ) (result : Result Unit PlanFault) → i < length code
    → places ≡ row.places → IsSetOf (LiveIn code i) before → IsListing code i places row.write → IsPlacingChecked code p r i places row.write result
    → IsRowChecked code p r i row result
row_checked code p r i row places before (Ok done) inside same is listing placing =
    row_valid code p r i places row.write before is listing placing (writes_or_not code i inside) row (sym same) refl
row_checked code p r i row places before (Err fault) inside same is listing first =
    subst (λ (qs : List Place). IsFirstOfRow code p r i qs row.write fault) same first

pub rows_more : (code : List Line) (p r : ℕ) (rows : List PlanRow) (i : ℕ) (d : PlanRow) → AreValidBelow code p r rows i → i < length rows
    → IsValidRow code p r i (get_or rows i d) → AreValidBelow code p r rows (i + 1)
rows_more code p r rows i d before inside valid j row less is = elim (cases_eq j i) [
  | inl same ↦
      let here : slice_get rows i ≡ Some row = subst (λ n. slice_get rows n ≡ Some row) same is in
      let e = get_or_from_slice_get rows i row d here in
      subst (λ n. IsValidRow code p r n row) (sym same) (subst (λ (s : PlanRow). IsValidRow code p r i s) e valid)
  | inr other ↦ before j row (omega arith) is
]

pub plan_checked : (code : List Line) (plan : Plan) (rows : List PlanRow) (result : Result Unit PlanFault) → rows ≡ plan.rows → HasSizes plan
    → length rows ≡ length code → AreRowsChecked code plan.p plan.r rows result → IsPlanChecked code plan result
plan_checked code plan rows (Ok done) same sizes one_each checked = record {
  order = sizes.0;
  few = sizes.1;
  one_each = ap (λ (rs : List PlanRow). length rs) (sym same) ∙ one_each;
  rows = λ i row is. checked i row (let inside = slice_get_within plan.rows i row is in let e = ap (λ (rs : List PlanRow). length rs) same in omega arith)
      (subst (λ (rs : List PlanRow). slice_get rs i ≡ Some row) (sym same) is);
}
plan_checked code plan rows (Err fault) same sizes one_each checked =
    by fault (subst (λ (rs : List PlanRow). AreRowsChecked code plan.p plan.r rs (Err fault)) same checked)
  where
    whole : length plan.rows ≡ length code
    whole = ap (λ (rs : List PlanRow). length rs) (sym same) ∙ one_each

    by : (f : PlanFault) → IsFirstOfRows code plan f → IsFirstFault code plan f
    by (Sizes a b) first = absurd first.5
    by (Length a b) first = absurd first.5
    by (Missing at k) first = (sizes, whole, first)
    by (Extra at k) first = (sizes, whole, first)
    by (ExtraWrite at) first = (sizes, whole, first)
    by (Range at k x) first = (sizes, whole, first)
    by (Twice at k l x) first = (sizes, whole, first)
    by (Crossing at k x) first = (sizes, whole, first)

-- a fault refutes its row

no_extra_after : (S : ℕ → Type 0) (before : Option VReg) (qs : List Place) → ((k : ℕ) → Contains (registers_of qs) k → S k)
    → ((s : Place) → Contains qs s → IsAbove before s.register.0) → Rises qs → Nowhere (IsExtra S before qs)
no_extra_after S before [] all above rises = λ k extra. extra
no_extra_after S before (q ∷ qs) all above rises = λ k extra. elim extra [
  | inl at ↦ elim at.1 [
    | inl out ↦ out (subst S at.0 (all q.register.0 (here q.register.0 (registers_of qs))))
    | inr low ↦ low (subst (IsAbove before) at.0 (above q (here q qs)))
  ]
  | inr later ↦ no_extra_after S (Some q.register) qs (λ j has. all j (there q.register.0 j (registers_of qs) has)) rises.0 rises.1 k later
]

no_extra : (S : ℕ → Type 0) (qs : List Place) → ((k : ℕ) → Contains (registers_of qs) k → S k) → Rises qs → Nowhere (IsExtra S None qs)
no_extra S qs all rises = no_extra_after S None qs all (λ s has. tt) rises

module _ (code : List Line) (p r i : ℕ) (row : PlanRow) (valid : IsValidRow code p r i row) where
  row_rises : Rises row.places
  row_rises = rises_by_index row.places valid.lists.rising

  refute_missing : Nowhere (IsMissing code i row.places row.write)
  refute_missing k missing = elim missing [
    | inl live ↦ live.1 ((valid.lists.exact k).1 live.0)
    | inr at ↦
        let some = valid.writes.1 (k, at.0) in
        absurd (let none : is_some row.write ≡ false = ap is_some at.1 in cc)
  ]

  refute_extra : Nowhere (IsExtra (LiveIn code i) None row.places)
  refute_extra = no_extra (LiveIn code i) row.places (λ k has. (valid.lists.exact k).0 has) row_rises

  some_written : (o : Option ℕ) → row.write ≡ o → (o ≢ None) → (k : ℕ) × WritesAt code i k
  some_written None e some = absurd (some refl)
  some_written (Some w) e some = valid.writes.0 (ap is_some e)

  refute_write : HasExtraWrite code i row.write → ⊥
  refute_write extra = let at = some_written row.write refl extra.0 in extra.1 at.0 at.1

  refute_out : IsInRange code r i row.places row.write
  refute_out k x out = elim out.0 [
    | inl has ↦ let less = valid.in_range _ has in let le = out.1 in absurd (omega arith)
    | inr at ↦ let less = valid.write_in_range x at.1 in let le = out.1 in absurd (omega arith)
  ]

  refute_share : HaveOwnPlaces row.places
  refute_share k l x share =
      let less = share.0 in
      let same = one_entry row.places valid.apart _ _ share.1 share.2 refl in
      let e : k ≡ l = ap (λ (s : Place). s.register.0) same in
      absurd (omega arith)

  refute_overwritten : IsWriteApart code i row.places row.write
  refute_overwritten x k over = valid.write_apart k x over.0 over.2 (place_once row.places k x row_rises over.1)

  refute_exposed : (k x : ℕ) → IsExposed code p i row.places k x → ⊥
  refute_exposed k x exposed =
      let less = valid.private k exposed.0 in
      let same = place_once row.places k x row_rises exposed.1 in
      let le = exposed.2 in
      absurd (omega arith)

  pub refuted : (fault : PlanFault) → IsFirstOfRow code p r i row.places row.write fault → ⊥
  refuted (Sizes a b) first = first
  refuted (Length a b) first = first
  refuted (Missing at k) first = refute_missing k.0 first.1.0
  refuted (Extra at k) first = refute_extra k.0 first.2.0
  refuted (ExtraWrite at) first = refute_write first.3
  refuted (Range at k x) first = refute_out k.0 x first.2.out
  refuted (Twice at k l x) first = elim first.3 [
    | inl pair ↦ refute_share k.0 l.0 x pair.share
    | inr over ↦ refute_overwritten x k.0 over.1.0
  ]
  refuted (Crossing at k x) first = refute_exposed k.0 x first.5

refute_rows : (code : List Line) (plan : Plan) (fault : PlanFault) → IsFirstOfRows code plan fault → IsValidPlan code plan → ⊥
refute_rows code plan fault first valid = refuted code plan.p plan.r first.0 first.1 (valid.rows first.0 first.1 first.2) fault first.5

refute : (code : List Line) (plan : Plan) (fault : PlanFault) → IsFirstFault code plan fault → IsValidPlan code plan → ⊥
refute code plan (Sizes a b) first valid = first.2 (valid.order, valid.few)
refute code plan (Length a b) first valid = first.3 (first.1 ∙ valid.one_each ∙ sym first.2)
refute code plan (Missing at k) first valid = refute_rows code plan (Missing at k) first.2 valid
refute code plan (Extra at k) first valid = refute_rows code plan (Extra at k) first.2 valid
refute code plan (ExtraWrite at) first valid = refute_rows code plan (ExtraWrite at) first.2 valid
refute code plan (Range at k x) first valid = refute_rows code plan (Range at k x) first.2 valid
refute code plan (Twice at k l x) first valid = refute_rows code plan (Twice at k l x) first.2 valid
refute code plan (Crossing at k x) first valid = refute_rows code plan (Crossing at k x) first.2 valid

-- a checked plan is valid exactly where the answer is Ok
pub ok_exactly : (code : List Line) (plan : Plan) (result : Result Unit PlanFault) → IsPlanChecked code plan result → IsOk result ↔ IsValidPlan code plan
ok_exactly code plan (Ok done) checked = (λ _. checked, λ _. refl)
ok_exactly code plan (Err fault) checked = (λ e. absurd (cc), λ valid. absurd (refute code plan fault checked valid))
