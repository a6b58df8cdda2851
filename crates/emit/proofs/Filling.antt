-- A table of places, filled from the back of a list and kept from row to row.
use Rattle.std.proofs.Common.{◌≡◌, ℕ, zero, suc, ◌+◌, ◌-◌, ◌<◌, List, [], ◌∷◌, length, drop, get_or, Option, Some, None, Bool, true, false, refl, sym, ap, ◌∙◌, subst, arith}
use Rattle.std.specs.Prelude.{slice_get, slice_index, slice_set, ◌==◌, if◌then◌else◌}
use Rattle.std.proofs.lemmas.Bool.{eqb-true, eqb-false}
use Rattle.std.proofs.lemmas.List.{get_or-set_same, get_or-set_other, drop_more}
use Rattle.std.proofs.lemmas.Option.{same_Some, slice_get-get_or, slice_get_within}
use Rattle.std.proofs.lemmas.Bool.Decides.{nat_tests}
use Rattle.micro_isa.specs.declared.limits.TheConstants.{MOST_REGISTERS}
use Rattle.micro_isa.specs.declared.program.VReg.{VReg}
use Rattle.micro_isa.specs.declared.program.Line.{Line}
use Rattle.micro_isa.specs.Columns.{next_of}
use Rattle.flow_graph.specs.Paths.{GoesTo, IsClosedCode}
use Rattle.edge_moves.specs.MoveSteps.{moving}
use Rattle.liveness.specs.Liveness.{LiveIn, Writes}
use Rattle.liveness.proofs.Visits.{live_small}
use Rattle.plan.specs.declared.row.Place.{Place}
use Rattle.plan.specs.declared.row.PlanRow.{PlanRow}
use Rattle.plan.specs.declared.row.Plan.{Plan}
use Rattle.plan.specs.ValidPlans.{place_in, IsValidPlan}
use Rattle.emitted.specs.Edges.{row_in, row_at, place_or_zero, written_in, place_after, pair_from, pairs_from}
use Rattle.emitted.proofs.Rows.{contained, listed, live_before, live_has, has_live}
use Rattle.emitted.proofs.Places.{has_reg}
use Rattle.emit.specs.Tables.{AreAfter, AreSmall, HasPlaces, place_with}

-- the place of a listed register in the table
pub place_at : (places : List Place) (table : List ℕ) (k : ℕ) → HasPlaces places table → has_reg places k ≡ true → slice_index table k ≡ place_in places k
place_at places table k has h = has.each k (contained places k h)

by_listed : (places : List Place) (table : List ℕ) → ((k : ℕ) → has_reg places k ≡ true → slice_index table k ≡ place_in places k) → HasPlaces places table
by_listed places table h = record { each = λ k there. h k (listed places k there) }

-- filling

pub nothing_listed : (table : List ℕ) → HasPlaces [] table
nothing_listed table = by_listed [] table (λ k h. absurd (cc))

filled : (table : List ℕ) (q : Place) (qs : List Place) → q.register.0 < length table → HasPlaces qs table → HasPlaces (q ∷ qs) (slice_set table q.register.0 q.place)
filled table q qs lt has = by_listed (q ∷ qs) (slice_set table q.register.0 q.place) (λ k h. by k (q.register.0 == k) refl h)
  where
    by : (k : ℕ) (b : Bool) → (q.register.0 == k) ≡ b → (if b then true else has_reg qs k) ≡ true → slice_index (slice_set table q.register.0 q.place) k ≡ (if b then q.place else place_in qs k)
    by k true is h = ap (slice_index (slice_set table q.register.0 q.place)) (sym (eqb-true q.register.0 k is)) ∙ get_or-set_same table q.register.0 q.place 0 lt
    by k false is h = get_or-set_other table q.register.0 k q.place 0 (λ e. eqb-false q.register.0 k is (sym e)) ∙ place_at qs table k has h

-- one place more from the back
pub fill_next : (table : List ℕ) (qs : List Place) (i : ℕ) (q d : Place) → i < length qs → q ≡ get_or qs (length qs - 1 - i) d → q.register.0 < length table
    → HasPlaces (drop (length qs - i) qs) table → HasPlaces (drop (length qs - (i + 1)) qs) (slice_set table q.register.0 q.place)
fill_next table qs i q d lt is small has =
    let a : length qs - (i + 1) ≡ length qs - 1 - i = omega arith in
    let b : length qs - 1 - i + 1 ≡ length qs - i = omega arith in
    let e : drop (length qs - (i + 1)) qs ≡ q ∷ drop (length qs - i) qs =
    ap (λ n. drop n qs) a ∙ drop_more qs (length qs - 1 - i) d (omega arith) ∙ ap (λ n. get_or qs (length qs - 1 - i) d ∷ drop n qs) b ∙ ap (λ x. x ∷ drop (length qs - i) qs) (sym is) in
    subst (λ l. HasPlaces l (slice_set table q.register.0 q.place)) (sym e) (filled table q (drop (length qs - i) qs) small has)

-- the item of a list has its register there
has_there : (qs : List Place) (a : ℕ) (q : Place) → slice_get qs a ≡ Some q → has_reg qs q.register.0 ≡ true
has_there [] a q e = absurd (cc)
has_there (x ∷ qs) zero q e = grind (arith, nat_tests, e)
has_there (x ∷ qs) (suc a) q e = grind (arith, nat_tests, has_there qs a q e)

listed_small : (code : List Line) (plan : Plan) (i : ℕ) → IsClosedCode code → IsValidPlan code plan → i < length code → AreSmall (row_at plan i).places
listed_small code plan i closed valid lt = record {
  each = λ a q is.
      let live = has_live code plan valid i lt q.register.0 (has_there (row_at plan i).places a q is) in
      live_small code closed live.0 i q.register.0 live.1;
}

pub row_small : (code : List Line) (plan : Plan) (i : ℕ) → IsClosedCode code → IsValidPlan code plan → AreSmall (row_at plan i).places
row_small code plan i closed valid = by (slice_get plan.rows i) refl
  where
    by : (o : Option PlanRow) → slice_get plan.rows i ≡ o → AreSmall (row_in o).places
    by None is = record { each = λ a q e. absurd (cc) }
    by (Some row) is =
        let there = slice_get_within plan.rows i row is in
        let same = valid.one_each in
        subst (λ o. AreSmall (row_in o).places) is (listed_small code plan i closed valid (omega arith))

pub small_at : (qs : List Place) (a : ℕ) (d : Place) → AreSmall qs → a < length qs → (get_or qs a d).register.0 < MOST_REGISTERS
small_at qs a d small lt = small.each a (get_or qs a d) (slice_get-get_or qs a d lt)

-- the instruction's write

module _ (code : List Line) (plan : Plan) (i : ℕ) (before : List ℕ) (valid : IsValidPlan code plan) (lt : i < length code) (has : HasPlaces (row_at plan i).places before) where
  kept : (k j : ℕ) (l : Line) → slice_get code i ≡ Some l → GoesTo (next_of l.instr i) j → LiveIn code j k → (Writes l k → ⊥) → slice_index before k ≡ place_in (row_at plan i).places k
  kept k j l is goes along not =
      place_at (row_at plan i).places before k has (live_has code plan valid i lt k (live_before code i j k l is goes not along))

  written : (k j : ℕ) (l : Line) → slice_get code i ≡ Some l → GoesTo (next_of l.instr i) j → LiveIn code j k → (w : Option VReg) → written_in (slice_get code i) ≡ w
      → place_with w (place_or_zero (row_at plan i).write) (λ n. slice_index before n) k ≡ place_after (row_at plan i) w k
  written k j l is goes along None e =
      kept k j l is goes along (λ writes. let none = sym e ∙ ap written_in is ∙ writes in absurd (cc))
  written k j l is goes along (Some d) e = by (k == d.0) refl
    where
      by : (b : Bool) → (k == d.0) ≡ b
          → (if b then place_or_zero (row_at plan i).write else slice_index before k) ≡ (if b then place_or_zero (row_at plan i).write else place_in (row_at plan i).places k)
      by true other = refl
      by false other = kept k j l is goes along (λ writes.
          let same = same_Some d (record { 0 = k }) (sym e ∙ ap written_in is ∙ writes) in
          eqb-false k d.0 other (sym (ap (λ (r : VReg). r.0) same)))

  pub after_write : (after : List ℕ) → ((k : ℕ) → slice_index after k ≡ place_with (written_in (slice_get code i)) (place_or_zero (row_at plan i).write) (λ n. slice_index before n) k)
      → AreAfter code plan i after
  after_write after wrote = record {
    each = λ k out. wrote k ∙ written k out.0 out.1.0 out.1.1 out.1.2 out.2 (written_in (slice_get code i)) refl;
  }

-- where nothing moves, the table has the places of the row

not_moved : (f : ℕ → ℕ) (qs : List Place) → moving (pairs_from f qs) ≡ [] → (k : ℕ) → has_reg qs k ≡ true → f k ≡ place_in qs k
not_moved f [] none k h = absurd (cc)
not_moved f (q ∷ qs) none k h = by (not_moved f qs) (f q.register.0 == q.place) refl none
  where
    here : f q.register.0 ≡ q.place → (has_reg qs k ≡ true → f k ≡ place_in qs k) → (b : Bool) → (q.register.0 == k) ≡ b → (if b then true else has_reg qs k) ≡ true → f k ≡ (if b then q.place else place_in qs k)
    here at rest true is h = ap f (sym (eqb-true q.register.0 k is)) ∙ at
    here at rest false is h = rest h

    by : (moving (pairs_from f qs) ≡ [] → (k : ℕ) → has_reg qs k ≡ true → f k ≡ place_in qs k) → (b : Bool) → (f q.register.0 == q.place) ≡ b
        → (if b then moving (pairs_from f qs) else pair_from f q ∷ moving (pairs_from f qs)) ≡ [] → f k ≡ place_in (q ∷ qs) k
    by rest true is none = here (eqb-true (f q.register.0) q.place is) (rest none k) (q.register.0 == k) refl h
    by rest false is none = absurd (cc)

pub empty : {A : Type 0} (xs : List A) → length xs ≡ 0 → xs ≡ []
empty [] e = refl
empty (x ∷ xs) e = absurd (omega arith)

pub still_there : (table : List ℕ) (places : List Place) → length (moving (pairs_from (λ k. slice_index table k) places)) ≡ 0 → HasPlaces places table
still_there table places none =
    by_listed places table (not_moved (λ k. slice_index table k) places (empty (moving (pairs_from (λ k. slice_index table k) places)) none))
