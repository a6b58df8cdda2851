-- A fall between regions whose fits differ takes steps.
use Rattle.std.proofs.Common.{◌≡◌, ◌≢◌, ℕ, zero, suc, ◌<◌, ◌≤◌, ◌==◌, Bool, true, false, cond, List, [], ◌∷◌, Option, Some, None, length, length-append, is_some, refl, sym, ap, subst, ◌∙◌, arith, inl, inr}
use Rattle.std.specs.Prelude.{slice_get, slice_index, if◌then◌else◌}
use Rattle.std.specs.List.{Contains}
use Rattle.std.proofs.lemmas.Bool.{cases_eq, eqb-true, eqb-false}
use Rattle.std.proofs.lemmas.Option.{slice_get_within}
use Rattle.micro_isa.specs.declared.image.PReg.{PReg}
use Rattle.micro_isa.specs.declared.program.Line.{Line}
use Rattle.micro_isa.specs.declared.program.VReg.{VReg}
use Rattle.micro_isa.specs.Columns.{written_by}
use Rattle.micro_isa.specs.Pieces.{total}
use Rattle.flow_graph.specs.Paths.{Edge, IsClosedCode}
use Rattle.liveness.specs.Liveness.{LiveIn}
use Rattle.liveness.specs.Surviving.{WritesAt}
use Rattle.liveness.proofs.Steps.{stays_live, survives}
use Rattle.edge_moves.specs.MoveSteps.{Pair, first_free, moving, move_steps, steps_from, turn, turn_at}
use Rattle.plan.specs.declared.row.Place.{Place}
use Rattle.plan.specs.declared.row.PlanRow.{PlanRow}
use Rattle.plan.specs.declared.row.Plan.{Plan}
use Rattle.plan.specs.ValidPlans.{place_in, registers_of}
use Rattle.pressure.specs.declared.region.Regions.{Regions}
use Rattle.pressure.specs.Regions.{AreRegionsOf, Connected, numbers_in}
use Rattle.range_colour.specs.declared.fit.Fit.{Fit}
use Rattle.range_colour.specs.Fits.{least_all, least_private, places_in}
use Rattle.range_colour.specs.PlacedPlans.{IsFitOf, IsPlacedRow, IsRegionFit}
use Rattle.range_colour.specs.Regional.{AreFirstFits, OfRegion}
use Rattle.range_colour.proofs.Sizing.{fit_by_same}
use Rattle.range_colour.proofs.Unique.{fit_once}
use Rattle.range_colour.proofs.Valid.{first_or_behind, place_is}
use Rattle.emitted.specs.Edges.{row_in, row_at, place_or_zero, place_after, pair_from, pairs_from, free_from, edge_pairs, edge_steps, next_at, steps_to, fall_steps, written_in}
use Rattle.emitted.proofs.Rows.{item_at}
use Rattle.emit.proofs.Edging.{fall_edge}
use Rattle.allocate.specs.Fits.{DoDiffer}

-- a register that is not yet where the next row has it
some_moving : (f : ℕ → ℕ) (places : List Place) (k : ℕ) → Contains (registers_of places) k → f k ≢ place_in places k → 0 < length (moving (pairs_from f places))
some_moving f [] k has differ = absurd (let less = has.1 in omega arith)
some_moving f (q ∷ places) k has differ = here (λ behind later. some_moving f places k behind later) (q.register.0 == k) refl
  where
    longer : (b : Bool) → 0 < length (moving (pairs_from f places)) → 0 < length (if b then moving (pairs_from f places) else pair_from f q ∷ moving (pairs_from f places))
    longer true some = some
    longer false some = omega arith

    first : (b : Bool) → (f q.register.0 == q.place) ≡ b → f q.register.0 ≢ q.place → 0 < length (if b then moving (pairs_from f places) else pair_from f q ∷ moving (pairs_from f places))
    first true e differs = absurd (differs (eqb-true (f q.register.0) q.place e))
    first false e differs = omega arith

    here : (Contains (registers_of places) k → f k ≢ place_in places k → 0 < length (moving (pairs_from f places))) → (b : Bool) → (q.register.0 == k) ≡ b → 0 < length (moving (pairs_from f (q ∷ places)))
    here later true e =
        let listed : place_in (q ∷ places) k ≡ q.place = ap (λ b. cond b q.place (place_in places k)) e in
        let same = eqb-true q.register.0 k e in
        first (f q.register.0 == q.place) refl (λ is. differ (sym (ap f same) ∙ is ∙ sym listed))
    here later false e = longer (f q.register.0 == q.place) (elim (first_or_behind q.register.0 (registers_of places) k has) [
      | inl same ↦ absurd (eqb-false q.register.0 k e same)
      | inr behind ↦ later behind (λ is. differ (is ∙ sym (ap (λ b. cond b q.place (place_in places k)) e)))
    ])

-- where something moves there is a step
first_step : (free : Option PReg) (left : List Pair) → 0 < length left → 0 < length (turn free left).steps
first_step free [] some = absurd (omega arith)
first_step free (p ∷ ps) some = by free (first_free (p ∷ ps) (p ∷ ps))
  where
    by : (free : Option PReg) (o : Option Pair) → 0 < length (turn_at free (p ∷ ps) o).steps
    by free (Some q) = omega arith
    by (Some f) None = omega arith
    by None None = omega arith

some_steps : (pairs : List Pair) (free : Option PReg) → 0 < length (moving pairs) → 0 < length (move_steps pairs free)
some_steps [] free some = absurd (omega arith)
some_steps (p ∷ ps) free some =
    let left = moving (p ∷ ps) in
    let step = first_step free left some in
    let long = length-append (turn free left).steps (steps_from free (length ps) (turn free left).left) in
    omega arith

module _ (code : List Line) (i j k : ℕ) (f : ℕ → ℕ) (mine : PlanRow) (placed : IsPlacedRow code i f mine) (edge : Edge code i j) (live : LiveIn code j k) where
  kept : (WritesAt code i k → ⊥) → place_in mine.places k ≡ f k
  kept none = place_is mine.places f k placed.places ((placed.lists.exact k).1 (stays_live code i k (survives code i j k edge live none)))

  wrote : WritesAt code i k → place_or_zero mine.write ≡ f k
  wrote writes = by mine.write refl (placed.writes.1 (k, writes))
    where
      by : (o : Option ℕ) → mine.write ≡ o → is_some o ≡ true → place_or_zero o ≡ f k
      by None e some = absurd (cc)
      by (Some w) e some = placed.written k w writes e

  -- a register that lives on the way is at its place after the instruction
  after_at : (o : Option Line) → slice_get code i ≡ o → place_after mine (written_in o) k ≡ f k
  after_at None e = absurd (let at = edge.1 in cc)
  after_at (Some line) e = by (written_by line.instr) refl
    where
      by : (w : Option VReg) → written_by line.instr ≡ w → place_after mine w k ≡ f k
      by None none = kept (λ writes.
          let there = writes.1 in let same : writes.0 ≡ line = cc in
          let wrote = subst (λ (l : Line). written_by l.instr ≡ Some (record { 0 = k })) same writes.2 in absurd (cc))
      by (Some d) some = at_register (k == d.0) refl
        where
          some_is : (x y : VReg) → Some x ≡ Some y → x ≡ y
          some_is x y e = cc

          at_register : (b : Bool) → (k == d.0) ≡ b → (if b then place_or_zero mine.write else place_in mine.places k) ≡ f k
          at_register true same =
              let is : k ≡ d.0 = eqb-true k d.0 same in
              let register : d ≡ record { 0 = k } = λ a. record { 0 = sym is a } in
              wrote (line, e, some ∙ ap Some register)
          at_register false other = kept (λ writes.
              let there = writes.1 in let same : writes.0 ≡ line = cc in
              let written = subst (λ (l : Line). written_by l.instr ≡ Some (record { 0 = k })) same writes.2 in
              let register : Some d ≡ Some (record { 0 = k }) = sym some ∙ written in
              let is : d.0 ≡ k = ap (λ (v : VReg). v.0) (some_is d (record { 0 = k }) register) in
              eqb-false k d.0 other (sym is))

module _ (code : List Line) (closed : IsClosedCode code) (regions : Regions) (are : AreRegionsOf code regions) (fits : List Fit) (are_fits : AreFirstFits code regions (length fits) fits) where
  abbrev number : ℕ → ℕ
  number i = slice_index (numbers_in regions) i

  -- the fit of an instruction's region is the first over what it is connected with
  first_fit : (i : ℕ) (fit : Fit) → i < length code → slice_get fits (number i) ≡ Some fit → IsFitOf code (Connected code i) (slice_index (places_in fit))
  first_fit i fit less is =
      let same = fit_by_same code (OfRegion regions (number i)) (Connected code i)
      (λ j low. let both = are.same i j less low in (λ of. both.0 (sym of), λ linked. sym (both.1 linked)))
      (places_in fit) (least_private fit) (least_all fit) (are_fits.each (number i) fit is) in
      same.first

  pub fall_moves : (i j : ℕ) (registers : List ℕ) → (next_at (slice_get code i) i).fall ≡ Some j → ((k : ℕ) → Contains registers k → LiveIn code j k) → DoDiffer fits (number i) (number j) registers
      → (p r : ℕ) (plan : Plan) → IsRegionFit code p r (Some plan) → 0 < length (fall_steps code plan i)
  fall_moves i j registers falls lives differ p r plan fit =
      let k = differ.register in
      let edge = fall_edge code i j falls in
      let live = lives k differ.listed in
      let at = fit.0 in
      let placed = fit.3 in
      let less : i < length code = slice_get_within code i edge.0 edge.1 in
      let low : j < length code = closed.closed i j edge in
      let mine = item_at plan.rows i (let e = placed.rows.one_each in omega arith) in
      let next = item_at plan.rows j (let e = placed.rows.one_each in omega arith) in
      let here : row_at plan i ≡ mine.0 = ap row_in mine.1 in
      let there : row_at plan j ≡ next.0 = ap row_in next.1 in
      let listed = placed.rows.each j next.0 next.1 in
      let member = (listed.lists.exact k).1 live in
      let after = after_at code i j k (at i) mine.0 (placed.rows.each i mine.0 mine.1) edge live (slice_get code i) refl in
      let target = place_is next.0.places (at j) k listed.places member in
      let one = fit_once code (Connected code i) (at i) (slice_index (places_in differ.one)) (fit.1 i less) (first_fit i differ.one less differ.is_one) k (i, less, ([], refl), inr (inl (j, edge, live), inl (j, edge, live))) in
      let other = fit_once code (Connected code j) (at j) (slice_index (places_in differ.other)) (fit.1 j low) (first_fit j differ.other low differ.is_other) k (j, low, ([], refl), inl (live, live)) in
      let some = some_moving (place_after mine.0 (written_in (slice_get code i))) next.0.places k member (λ is. differ.apart (sym one ∙ sym after ∙ is ∙ target ∙ other)) in
      let pairs : moving (edge_pairs plan (written_in (slice_get code i)) i j) ≡ moving (pairs_from (place_after mine.0 (written_in (slice_get code i))) next.0.places) =
      λ a. moving (pairs_from (place_after (here a) (written_in (slice_get code i))) (there a).places) in
      let moves : 0 < length (moving (edge_pairs plan (written_in (slice_get code i)) i j)) = let long = ap (λ (ps : List Pair). length ps) pairs in omega arith in
      let steps : 0 < length (edge_steps code plan i j) = some_steps (edge_pairs plan (written_in (slice_get code i)) i j) (free_from (edge_pairs plan (written_in (slice_get code i)) i j) plan.r 0) moves in
      subst (λ (o : Option ℕ). 0 < length (steps_to code plan i o)) (sym falls) steps

-- the first terms of a sum are no more than the sum
pub total_rises : (g : ℕ → ℕ) (m n : ℕ) → m ≤ n → total g m ≤ total g n
total_rises g m zero le = let none : m ≡ 0 = omega arith in subst (λ k. total g k ≤ 0) (sym none) (omega arith)
total_rises g m (suc n) le = elim (cases_eq m (suc n)) [
  | inl same ↦ subst (λ k. total g k ≤ total g (suc n)) (sym same) (omega arith)
  | inr other ↦ let rest = total_rises g m n (omega arith) in omega arith
]

-- one is no more than what is not nothing
pub one_most : (n m : ℕ) → n ≤ 1 → (0 < n → 0 < m) → n ≤ m
one_most zero m one some = omega arith
one_most (suc n) m one some = let more = some (omega arith) in omega arith
