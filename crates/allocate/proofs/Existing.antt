-- Where a fit over the whole program fits, there is a plan by it.
use Rattle.std.proofs.Common.{◌≡◌, ℕ, zero, suc, ◌+◌, ◌*◌, ◌/◌, ◌%◌, ◌^◌, ◌<◌, ◌≤◌, Bool, true, false, List, [], ◌∷◌, ◌++◌, map, Some, length, length-append, refl, sym, ap, subst, ◌∙◌, arith, inl, inr}
use Rattle.std.specs.Prelude.{option_map, slice_get, slice_index}
use Rattle.std.specs.Int.{bit_at}
use Rattle.std.specs.List.{Contains}
use Rattle.std.proofs.lemmas.Bool.{cases_lt}
use Rattle.std.proofs.lemmas.Nat.Bits.{bit_at_above, bit_at_cat_low}
use Rattle.micro_isa.specs.declared.limits.TheConstants.{MOST_FILE}
use Rattle.micro_isa.specs.declared.program.Line.{Line}
use Rattle.micro_isa.specs.declared.program.VReg.{VReg}
use Rattle.micro_isa.specs.Columns.{written_by}
use Rattle.flow_graph.specs.Paths.{IsClosedCode}
use Rattle.liveness.specs.declared.live.Live.{Live}
use Rattle.liveness.specs.Liveness.{LiveIn}
use Rattle.liveness.specs.Lives.{IsLiveOf, in_sets}
use Rattle.liveness.specs.Sets.{IsSetOf, members}
use Rattle.liveness.proofs.Visits.{live_small}
use Rattle.plan.specs.declared.row.Place.{Place}
use Rattle.plan.specs.declared.row.PlanRow.{PlanRow}
use Rattle.plan.specs.declared.row.Plan.{Plan}
use Rattle.plan.specs.ValidPlans.{registers_of}
use Rattle.range_colour.specs.declared.fit.Fit.{Fit}
use Rattle.range_colour.specs.Fits.{IsFit, places_in}
use Rattle.range_colour.specs.Groups.{Every}
use Rattle.range_colour.specs.PlacedPlans.{AreRowsPlaced, IsPlacedRow}
use Rattle.range_colour.specs.Regional.{fits_test}
use Rattle.range_colour.proofs.Placing.{row_placed}
use Rattle.range_colour.proofs.Planning.{pushed_each, whole_none, whole_some}
use Rattle.range_colour.proofs.Valid.{first_or_behind}
use Rattle.emitted.proofs.Rows.{item_at}
use Rattle.allocate.specs.Fits.{TellsWhole}

-- the low bits of a set are those of the set
low_bit : (set k : ℕ) → k < 128 → bit_at set k ≡ bit_at (set % 2 ^ 128) k
low_bit set k less =
    let whole : set / 2 ^ 128 * 2 ^ 128 + set % 2 ^ 128 ≡ set = omega arith in
    ap (λ n. bit_at n k) (sym whole) ∙ bit_at_cat_low (set / 2 ^ 128) 128 (set % 2 ^ 128) k less

low_set : (code : List Line) (i set : ℕ) → IsClosedCode code → IsSetOf (LiveIn code i) set → IsSetOf (LiveIn code i) (set % 2 ^ 128)
low_set code i set closed is = record {
  exact = λ k. (
    λ one. elim (cases_lt k 128) [
      | inl less ↦ (is.exact k).0 (low_bit set k less ∙ one)
      | inr more ↦ absurd (let none = bit_at_above (set % 2 ^ 128) 128 k (omega arith) more in omega arith)
    ],
    λ live. sym (low_bit set k (live_small code closed live.0 i k live.1)) ∙ (is.exact k).1 live,
  );
}

abbrev placed_at : (ℕ → ℕ) → ℕ → Place
placed_at f k = record { register = record { 0 = k }; place = f k }

made_registers : (f : ℕ → ℕ) (ks : List ℕ) → registers_of (map (placed_at f) ks) ≡ ks
made_registers f [] = refl
made_registers f (k ∷ ks) = ap (λ l. k ∷ l) (made_registers f ks)

made_places : (f : ℕ → ℕ) (ks : List ℕ) (q : Place) → Contains (map (placed_at f) ks) q → q.place ≡ f q.register.0
made_places f [] q has = absurd (let less = has.1 in omega arith)
made_places f (k ∷ ks) q has = elim (first_or_behind (placed_at f k) (map (placed_at f) ks) q has) [
  | inl same ↦ subst (λ (x : Place). x.place ≡ f x.register.0) same refl
  | inr behind ↦ made_places f ks q behind
]

row_there : (code : List Line) (live : Live) (f : ℕ → ℕ) (i : ℕ) → IsClosedCode code → IsLiveOf code live → i < length code → (row : PlanRow) × IsPlacedRow code i f row
row_there code live f i closed is less =
    let set = slice_index (in_sets live) i in
    let line = item_at code i less in
    let ks = members 128 (set % 2 ^ 128) in
    let row : PlanRow = record { places = map (placed_at f) ks; write = option_map (λ (v : VReg). f v.0) (written_by line.0.instr) } in
    (row, row_placed code i line.0 line.1 f (set % 2 ^ 128) row (omega arith) (low_set code i set closed (is.live_in i less)) (made_registers f ks) (made_places f ks) (written_by line.0.instr) refl refl)

rows_below : (code : List Line) (at : ℕ → ℕ → ℕ) (n : ℕ) → ((i : ℕ) → i < n → (row : PlanRow) × IsPlacedRow code i (at i) row)
    → (rows : List PlanRow) × (length rows ≡ n) × ((i : ℕ) (row : PlanRow) → slice_get rows i ≡ Some row → IsPlacedRow code i (at i) row)
rows_below code at zero each = ([], refl, λ i row is. absurd (cc))
rows_below code at (suc n) each =
    let earlier = rows_below code at n (λ i less. each i (omega arith)) in
    let last = each n (omega arith) in
    let long = length-append earlier.0 (last.0 ∷ []) in
    let number = earlier.1 in
    let here = subst (λ k. IsPlacedRow code k (at k) last.0) (sym number) last.1 in
    (earlier.0 ++ last.0 ∷ [], omega arith, pushed_each (λ i row. IsPlacedRow code i (at i) row) earlier.0 last.0 earlier.2 here)

pub rows_there : (code : List Line) (live : Live) (at : ℕ → ℕ → ℕ) → IsClosedCode code → IsLiveOf code live → (rows : List PlanRow) × AreRowsPlaced code at rows
rows_there code live at closed is =
    let found = rows_below code at (length code) (λ i less. row_there code live (at i) i closed is less) in
    (found.0, record { one_each = found.1; each = found.2 })

-- the fit over the whole program has a plan where it fits, and else runs out
pub whole_tells : (code : List Line) (live : Live) (fit : Fit) (p r : ℕ) → IsClosedCode code → IsLiveOf code live → IsFit code Every fit → p ≤ r → r ≤ MOST_FILE → TellsWhole code p r (fits_test fit p r)
whole_tells code live fit p r closed is fits order few = by (fits_test fit p r) refl
  where
    by : (b : Bool) → fits_test fit p r ≡ b → TellsWhole code p r b
    by false e = whole_none code fit p r fits order few e
    by true e =
        let rows = rows_there code live (λ i. slice_index (places_in fit)) closed is in
        let plan : Plan = record { p = p; r = r; rows = rows.0 } in
        (plan, whole_some code fit p r fits order few e plan (record { private = refl; all = refl; rows = rows.1 }))
