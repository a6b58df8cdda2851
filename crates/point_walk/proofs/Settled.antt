-- Rows whose registers stood: none of them moves on a fall.
use Rattle.std.proofs.Common.{◌≡◌, ℕ, zero, suc, ◌+◌, ◌<◌, Bool, true, false, List, [], ◌∷◌, ◌++◌, Option, Some, None, length, get_or, set, Contains, add-one, refl, sym, subst, ◌∙◌, ap, inl, inr, arith}
use Rattle.std.specs.Prelude.{slice_get, if◌then◌else◌}
use Rattle.std.proofs.lemmas.Bool.{cases_eq}
use Rattle.std.proofs.lemmas.List.{length-append, length-set, get_or_append_left}
use Rattle.std.proofs.lemmas.Option.{slice_get_within, slice_get-get_or, get_or_from_slice_get}
use Rattle.std.proofs.Math.Seq.{get_or-append_seam}
use Rattle.micro_isa.specs.declared.program.Line.{Line}
use Rattle.micro_isa.specs.declared.program.VReg.{VReg}
use Rattle.flow_graph.specs.Paths.{IsClosedCode, IsSmall}
use Rattle.liveness.specs.Liveness.{LiveIn}
use Rattle.liveness.specs.Surviving.{WritesAt, Stays}
use Rattle.liveness.proofs.Steps.{stays_live}
use Rattle.plan.specs.declared.row.Place.{Place}
use Rattle.plan.specs.declared.row.PlanRow.{PlanRow}
use Rattle.plan.specs.ValidPlans.{registers_of, place_in}
use Rattle.plan.proofs.Entries.{placed}
use Rattle.point_walk.specs.Walks.{Table, nothing, place_at, place_or_zero, entries, written_in, falls_in, put, Follows, Walked}
use Rattle.point_walk.specs.Tables.{IsTable}
use Rattle.point_walk.specs.Settling.{AreKept, HadPlaces, FallsStill}
use Rattle.point_walk.proofs.Slots.{set_here, set_there}
use Rattle.point_walk.proofs.Valid.{registers_entries, entry_tells, some_place, writes_at, at_writes, falls_edge}

-- what is kept had its place
pub had_places : (old table : Table) (ks : List ℕ) (places : List Place) → places ≡ entries table ks → AreKept old table ks → HadPlaces old places
had_places old table ks places e are = subst (HadPlaces old) (sym e) (record {
  had = λ q has.
      let tells = entry_tells table ks q.register.0 q.place has in
      let kept = are.kept q.register.0 tells.0 in
      kept.2 ∙ sym kept.1 ∙ some_place (place_at table q.register.0) kept.0 q.place kept.1 tells.1;
})

-- the place of a listed register
entry_place : (table : Table) (ks : List ℕ) (k : ℕ) → Contains ks k → place_in (entries table ks) k ≡ place_or_zero (place_at table k)
entry_place table ks k has =
    (entry_tells table ks k (place_in (entries table ks) k) (placed (entries table ks) k (subst (λ (l : List ℕ). Contains l k) (sym (registers_entries table ks)) has))).1

-- from one row to the next

module _ (code : List Line) (p m : ℕ) (row next : PlanRow) (wished wishes left : Table) (closed : IsClosedCode code) (is : IsTable wishes) (mine : Follows code p m wished row wishes)
    (after : Follows code p (m + 1) wishes next left) (falls : falls_in m (slice_get code m) ≡ true) (had : HadPlaces wishes next.places) where
  wishes_are : wishes ≡ put (written_in (slice_get code m)) row.write mine.table
  wishes_are = mine.leaves ∙ ap (λ b. if b then put (written_in (slice_get code m)) row.write mine.table else nothing) falls

  next_place : (k : ℕ) → LiveIn code (m + 1) k → place_at wishes k ≡ Some (place_in next.places k)
  next_place k live =
      let all : registers_of next.places ≡ after.before = ap registers_of after.places ∙ registers_entries after.table after.before in
      had.had (record { register = record { 0 = k }; place = place_in next.places k })
      (placed next.places k (subst (λ (l : List ℕ). Contains l k) (sym all) ((after.is_before.exact k).1 live)))

  is_written : (k : ℕ) → LiveIn code (m + 1) k → WritesAt code m k → row.write ≡ Some (place_in next.places k)
  is_written k live at =
      let same : wishes ≡ set mine.table k row.write = wishes_are ∙ ap (λ w. put w row.write mine.table) (at_writes code m k at) in
      let long : length wishes ≡ length mine.table = ap (λ (t : Table). length t) same ∙ length-set mine.table k row.write in
      let small = (closed.registers m at.0 at.1).written in
      let low : k < 128 = subst IsSmall at.2 small in
      let size = is.size in
      sym (set_here mine.table k row.write (omega arith)) ∙ ap (λ (t : Table). place_at t k) (sym same) ∙ next_place k live

  unwritten : (k : ℕ) → (WritesAt code m k → ⊥) → (o : Option VReg) → written_in (slice_get code m) ≡ o → place_at (put o row.write mine.table) k ≡ place_at mine.table k
  unwritten k other None e = refl
  unwritten k other (Some d) e =
      set_there mine.table d.0 k row.write (λ same. absurd (other (subst (λ n. WritesAt code m n) (sym same) (writes_at code m d (slice_get code m) refl e))))

  is_kept : (k : ℕ) → LiveIn code (m + 1) k → (WritesAt code m k → ⊥) → place_in row.places k ≡ place_in next.places k
  is_kept k live other =
      let stays : Stays code m k = ((m + 1, falls_edge code m (slice_get code m) refl falls, live), other) in
      let has = (mine.is_before.exact k).1 (stays_live code m k stays) in
      let at : place_at mine.table k ≡ Some (place_in next.places k) =
      sym (unwritten k other (written_in (slice_get code m)) refl) ∙ ap (λ (t : Table). place_at t k) (sym wishes_are) ∙ next_place k live in
      ap (λ (l : List Place). place_in l k) mine.places ∙ entry_place mine.table mine.before k has ∙ ap place_or_zero at

-- one row more

at_last : (rows : List PlanRow) (row other : PlanRow) (i : ℕ) → i ≡ length rows → slice_get (rows ++ row ∷ []) i ≡ Some other → other ≡ row
at_last rows row other i e at =
    sym (get_or_from_slice_get (rows ++ row ∷ []) i other other at) ∙ ap (λ m. get_or (rows ++ row ∷ []) m other) e ∙ get_or-append_seam rows row [] other

at_earlier : (rows : List PlanRow) (row other : PlanRow) (i : ℕ) → i < length rows → slice_get (rows ++ row ∷ []) i ≡ Some other → slice_get rows i ≡ Some other
at_earlier rows row other i low at =
    let same = get_or_from_slice_get (rows ++ row ∷ []) i other other at in
    slice_get-get_or rows i other low ∙ ap Some (sym (get_or_append_left rows (row ∷ []) other i low) ∙ same)

walked_size : (code : List Line) (p n : ℕ) (rows : List PlanRow) (wishes : Table) → Walked code p n rows wishes → length rows ≡ n
walked_size code p zero rows wishes walked = ap (λ (s : List PlanRow). length s) walked.0
walked_size code p (suc n) rows wishes walked =
    let before = walked_size code p n walked.0 walked.1 walked.3 in
    ap (λ (s : List PlanRow). length s) walked.5 ∙ length-append walked.0 (walked.2 ∷ []) ∙ (omega arith)

-- the last of the rows so far
last_row : (code : List Line) (p n m : ℕ) (rows : List PlanRow) (row : PlanRow) (wishes : Table) → m + 1 ≡ n → Walked code p n rows wishes → slice_get rows m ≡ Some row
    → (wished : Table) × Follows code p m wished row wishes
last_row code p n m rows row wishes e walked at =
    let here : Walked code p (suc m) rows wishes = subst (λ k. Walked code p k rows wishes) (sym e ∙ add-one m) walked in
    let size = walked_size code p m here.0 here.1 here.3 in
    let same = at_last here.0 here.2 row m (sym size) (subst (λ (s : List PlanRow). slice_get s m ≡ Some row) here.5 at) in
    (here.1, subst (λ (s : PlanRow). Follows code p m here.1 s wishes) (sym same) here.4)

pub settled_more : (code : List Line) (p n : ℕ) (rows more : List PlanRow) (row : PlanRow) (wishes left : Table) (stood : Bool) → IsClosedCode code → IsTable wishes → Walked code p n rows wishes
    → Follows code p n wishes row left → more ≡ rows ++ row ∷ [] → (stood ≡ true → HadPlaces wishes row.places)
    → (stood ≡ false → (j : ℕ) → j + 1 ≡ n → falls_in j (slice_get code j) ≡ false)
    → FallsStill code (record { p = p; r = p; rows = rows }) → FallsStill code (record { p = p; r = p; rows = more })
settled_more code p n rows more row wishes left stood closed is walked follows e had quiet still i falls mine next at_mine at_next =
    elim (cases_eq (i + 1) n) [
      | inl last ↦ by stood refl last
      | inr other ↦ still i falls mine next (at_earlier rows row mine i (omega (arith, size, inside, long)) one) (at_earlier rows row next (i + 1) (omega (arith, size, inside, long)) two)
    ]
  where
    size : length rows ≡ n
    size = walked_size code p n rows wishes walked

    one : slice_get (rows ++ row ∷ []) i ≡ Some mine
    one = subst (λ (s : List PlanRow). slice_get s i ≡ Some mine) e at_mine

    two : slice_get (rows ++ row ∷ []) (i + 1) ≡ Some next
    two = subst (λ (s : List PlanRow). slice_get s (i + 1) ≡ Some next) e at_next

    inside : i + 1 < length (rows ++ row ∷ [])
    inside = slice_get_within (rows ++ row ∷ []) (i + 1) next two

    long : length (rows ++ row ∷ []) ≡ length rows + 1
    long = length-append rows (row ∷ [])

    by : (b : Bool) → stood ≡ b → i + 1 ≡ n
        → (k : ℕ) → LiveIn code (i + 1) k → (WritesAt code i k → mine.write ≡ Some (place_in next.places k)) × ((WritesAt code i k → ⊥) → place_in mine.places k ≡ place_in next.places k)
    by false off last = absurd (let none = quiet off i last in cc)
    by true on last =
        let before = last_row code p n i rows mine wishes last walked (at_earlier rows row mine i (omega (arith, size)) one) in
        let same = at_last rows row next (i + 1) (last ∙ sym size) two in
        let here : Follows code p (i + 1) wishes next left = subst (λ m. Follows code p m wishes next left) (sym last) (subst (λ (s : PlanRow). Follows code p n wishes s left) (sym same) follows) in
        let kept = subst (λ (s : PlanRow). HadPlaces wishes s.places) (sym same) (had on) in
        λ k live. (
          is_written code p i mine next before.0 wishes left closed is before.1 here falls kept k live,
          is_kept code p i mine next before.0 wishes left closed is before.1 here falls kept k live,
        )
