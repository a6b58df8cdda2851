-- What a valid plan gives at an instruction.
use Rattle.std.proofs.Common.{◌≡◌, ◌≢◌, ℕ, zero, suc, ◌<◌, List, [], ◌∷◌, length, get_or, Option, Some, None, Bool, true, false, Contains, refl, sym, ◌∙◌, subst, arith}
use Rattle.std.specs.Prelude.{slice_get, slice_index, is_some, ◌==◌, if◌then◌else◌}
use Rattle.std.proofs.lemmas.Bool.{eqb-true}
use Rattle.std.proofs.lemmas.Bool.Decides.{nat_tests}
use Rattle.std.proofs.lemmas.Option.{same_Some, slice_get_within, get_or_from_slice_get}
use Rattle.micro_isa.specs.declared.program.VReg.{VReg}
use Rattle.micro_isa.specs.declared.program.Line.{Line}
use Rattle.micro_isa.specs.Columns.{written_by, next_of}
use Rattle.flow_graph.specs.Paths.{GoesTo}
use Rattle.liveness.specs.Liveness.{Reads, Writes, LiveIn}
use Rattle.plan.specs.declared.row.Place.{Place}
use Rattle.plan.specs.declared.row.Plan.{Plan}
use Rattle.liveness.specs.Surviving.{Stays}
use Rattle.plan.specs.ValidPlans.{registers_of, place_in, IsValidRow, IsValidPlan}
use Rattle.emitted.specs.Edges.{row_in, row_at, place_or_zero}
use Rattle.emitted.proofs.Places.{has_reg, Differ, apart_in}

pub item_at : {A : Type 0} (xs : List A) (i : ℕ) → i < length xs → (x : A) × (slice_get xs i ≡ Some x)
item_at [] i lt = absurd (omega arith)
item_at (x ∷ xs) zero lt = (x, refl)
item_at (x ∷ xs) (suc i) lt = item_at xs i (omega arith)

listed_at : (qs : List Place) (i k d : ℕ) → i < length (registers_of qs) → get_or (registers_of qs) i d ≡ k → has_reg qs k ≡ true
listed_at [] i k d lt e = absurd (omega arith)
listed_at (q ∷ qs) zero k d lt e = grind (arith, nat_tests)
listed_at (q ∷ qs) (suc i) k d lt e =
    let rest : has_reg qs k ≡ true = listed_at qs i k d (omega arith) e in
    grind (arith, nat_tests)

pub listed : (qs : List Place) (k : ℕ) → Contains (registers_of qs) k → has_reg qs k ≡ true
listed qs k h = listed_at qs h.0 k k h.1 h.2

contained_at : (qs : List Place) (k d : ℕ) → has_reg qs k ≡ true → (i : ℕ) × (i < length (registers_of qs)) × (get_or (registers_of qs) i d ≡ k)
contained_at [] k d h = absurd (cc)
contained_at (q ∷ qs) k d h = by (contained_at qs k d) (q.register.0 == k) refl h
  where
    by : (has_reg qs k ≡ true → (i : ℕ) × (i < length (registers_of qs)) × (get_or (registers_of qs) i d ≡ k)) → (b : Bool) → (q.register.0 == k) ≡ b → (if b then true else has_reg qs k) ≡ true → (i : ℕ) × (i < length (registers_of (q ∷ qs))) × (get_or (registers_of (q ∷ qs)) i d ≡ k)
    by rest true is h = (0, omega arith, eqb-true q.register.0 k is)
    by rest false is h = let l = rest h in (suc l.0, let lt = l.1 in omega arith, l.2)

pub contained : (qs : List Place) (k : ℕ) → has_reg qs k ≡ true → Contains (registers_of qs) k
contained qs k h = contained_at qs k k h

pub differs : (qs : List Place) → ((a b : ℕ) → a < b → b < length (registers_of qs) → slice_index (registers_of qs) a < slice_index (registers_of qs) b) → Differ qs
differs [] rising = tt
differs (q ∷ qs) rising = (by (has_reg qs q.register.0) refl, differs qs (λ a b lt le. rising (suc a) (suc b) (omega arith) (omega arith)))
  where
    by : (b : Bool) → has_reg qs q.register.0 ≡ b → b ≡ false
    by true is =
        let l = contained_at qs q.register.0 0 is in
        let lt = l.1 in
        let less : q.register.0 < slice_index (registers_of qs) l.0 = rising 0 (suc l.0) (omega arith) (omega arith) in
        let same : slice_index (registers_of qs) l.0 ≡ q.register.0 = l.2 in
        absurd (omega arith)
    by false is = refl

-- the item that gives a listed register its place
pub placed : (qs : List Place) (k : ℕ) → has_reg qs k ≡ true → (i : ℕ) × (q : Place) × (slice_get qs i ≡ Some q) × (q.place ≡ place_in qs k)
placed [] k h = absurd (cc)
placed (q ∷ qs) k h = by (placed qs k) (q.register.0 == k) h
  where
    by : (has_reg qs k ≡ true → (i : ℕ) × (p : Place) × (slice_get qs i ≡ Some p) × (p.place ≡ place_in qs k)) → (b : Bool) → (if b then true else has_reg qs k) ≡ true → (i : ℕ) × (p : Place) × (slice_get (q ∷ qs) i ≡ Some p) × (p.place ≡ (if b then q.place else place_in qs k))
    by rest true h = (0, q, refl, refl)
    by rest false h = let l = rest h in (suc l.0, l.1, l.2, l.3)

there_is : (o : Option ℕ) → is_some o ≡ true → (w : ℕ) × (o ≡ Some w)
there_is None h = absurd (cc)
there_is (Some w) h = (w, refl)

-- what is live at a successor and not written is live here, and survives
pub live_before : (code : List Line) (i j k : ℕ) (l : Line) → slice_get code i ≡ Some l → GoesTo (next_of l.instr i) j → (Writes l k → ⊥) → LiveIn code j k → LiveIn code i k
live_before code i j k l is goes not along = (j ∷ along.0, (l, is, not, goes, along.1))

pub stays_over : (code : List Line) (i j k : ℕ) (l : Line) → slice_get code i ≡ Some l → GoesTo (next_of l.instr i) j → (Writes l k → ⊥) → LiveIn code j k → Stays code i k
stays_over code i j k l is goes not along = (
  (j, (l, is, goes), along),
  λ w. let same : w.0 ≡ l = same_Some w.0 l (sym w.1 ∙ is) in not (subst (λ m. Writes m k) same w.2),
)

pub live_read : (code : List Line) (i k : ℕ) (l : Line) → slice_get code i ≡ Some l → Reads l k → LiveIn code i k
live_read code i k l is reads = ([], (l, is, reads))

module _ (code : List Line) (plan : Plan) (valid : IsValidPlan code plan) where
  pub row_valid : (i : ℕ) → i < length code → IsValidRow code plan.p plan.r i (row_at plan i)
  row_valid i lt =
      let row = item_at plan.rows i (omega (arith, valid.one_each)) in
      subst (λ o. IsValidRow code plan.p plan.r i (row_in o)) (sym row.1) (valid.rows i row.0 row.1)

  module _ (i : ℕ) (lt : i < length code) where
    abbrev qs : List Place
    qs = (row_at plan i).places

    pub live_has : (k : ℕ) → LiveIn code i k → has_reg qs k ≡ true
    live_has k l = listed qs k (((row_valid i lt).lists.exact k).1 l)

    pub has_live : (k : ℕ) → has_reg qs k ≡ true → LiveIn code i k
    has_live k h = ((row_valid i lt).lists.exact k).0 (contained qs k h)

    pub row_differs : Differ qs
    row_differs = differs qs (row_valid i lt).lists.rising

    pub listed_below : (a : ℕ) (q : Place) → slice_get qs a ≡ Some q → q.place < plan.r
    listed_below a q is = (row_valid i lt).in_range q (a, slice_get_within qs a q is, get_or_from_slice_get qs a q q is)

    pub place_below : (k : ℕ) → LiveIn code i k → place_in qs k < plan.r
    place_below k l =
        let p = placed qs k (live_has k l) in
        subst (λ n. n < plan.r) p.3 (listed_below p.0 p.1 p.2)

    pub places_apart : (k l : ℕ) → LiveIn code i k → LiveIn code i l → place_in qs k ≡ place_in qs l → k ≡ l
    places_apart k l lk ll e = apart_in qs (row_valid i lt).apart k l (live_has k lk) (live_has l ll) e

    module _ (line : Line) (is : slice_get code i ≡ Some line) (d : VReg) (writes : written_by line.instr ≡ Some d) where
      has_write : (w : ℕ) × ((row_at plan i).write ≡ Some w)
      has_write = there_is (row_at plan i).write ((row_valid i lt).writes.1 (d.0, (line, is, writes)))

      pub write_below : place_or_zero (row_at plan i).write < plan.r
      write_below =
          let w = has_write in
          subst (λ o. place_or_zero o < plan.r) (sym w.1) ((row_valid i lt).write_in_range w.0 w.1)

      pub write_apart : (k : ℕ) → Stays code i k → place_in qs k ≢ place_or_zero (row_at plan i).write
      write_apart k stays =
          let w = has_write in
          subst (λ o. place_in qs k ≢ place_or_zero o) (sym w.1) ((row_valid i lt).write_apart k w.0 stays w.1)
