-- The walk is valid.
use Rattle.std.proofs.Common.{◌≡◌, ◌≢◌, ℕ, zero, suc, ◌+◌, ◌<◌, ◌≤◌, ◌↔◌, Bool, true, false, List, [], ◌∷◌, ◌++◌, Option, Some, None, length, get_or, set, Contains, add-one, refl, sym, subst, ◌∙◌, ap, inl, inr, arith}
use Rattle.std.specs.Prelude.{nat_eq, is_some, slice_get, if◌then◌else◌}
use Rattle.std.specs.Cmp.{nat_eq_equiv, unsigned_Decides}
use Rattle.std.specs.List.{list_any}
use Rattle.std.proofs.lemmas.Bool.{cases_eq}
use Rattle.std.proofs.lemmas.List.{length-append, get_or_append_left}
use Rattle.std.proofs.lemmas.List.Elements.{Contains-append_left, Contains-push, Contains-push_cases}
use Rattle.std.proofs.lemmas.Map.Keys.{IsDistinct-push}
use Rattle.std.proofs.lemmas.Map.Made.{is_member-Decides}
use Rattle.std.proofs.lemmas.Option.{same_Some, slice_get_within, slice_get-get_or, get_or_from_slice_get}
use Rattle.std.proofs.Math.Seq.{get_or-append_seam}
use Rattle.micro_isa.specs.declared.instr.Instr.{Instr}
use Rattle.micro_isa.specs.declared.instr.Instr.TheVariants as instr
use Rattle.micro_isa.specs.declared.program.Line.{Line}
use Rattle.micro_isa.specs.declared.program.VReg.{VReg}
use Rattle.micro_isa.specs.Columns.{next_of}
use Rattle.flow_graph.specs.Paths.{IsClosedCode, IsSmall, Edge}
use Rattle.liveness.specs.Liveness.{LiveIn}
use Rattle.liveness.specs.Sets.{HasSize, Lists}
use Rattle.liveness.specs.Surviving.{WritesAt, Stays, IsAfter}
use Rattle.liveness.specs.Pressures.{HasRoom}
use Rattle.liveness.proofs.Steps.{stays_live, crosses_live}
use Rattle.liveness.proofs.Visits.{live_small}
use Rattle.plan.specs.declared.row.Place.{Place}
use Rattle.plan.specs.declared.row.PlanRow.{PlanRow}
use Rattle.plan.specs.declared.row.Plan.{Plan}
use Rattle.plan.specs.ValidPlans.{registers_of, place_in, IsValidRow, IsValidPlan}
use Rattle.plan.specs.Faults.{HasPlace, HaveOwnPlaces}
use Rattle.plan.proofs.Entries.{here, there, no_member, member_cases, placed, rises_by_index}
use Rattle.plan.proofs.Places.{one_written}
use Rattle.plan.proofs.Checked.{distinct}
use Rattle.point_walk.specs.Walks.{Table, nothing, place_at, place_or_zero, entries, IsLeastApart, IsPlaceFor, IsWritePlace, written_in, falls_in, put, Follows, Walked, IsWalk}
use Rattle.point_walk.proofs.Slots.{set_here, set_there, room, nothing_has}
use Rattle.point_walk.specs.Keeping.{AreWishes}
use Rattle.point_walk.proofs.Stages.{rising_distinct, IsPartial, given_all}

-- entries of a table

pub registers_entries : (table : Table) (ks : List ℕ) → registers_of (entries table ks) ≡ ks
registers_entries table [] = refl
registers_entries table (k ∷ ks) = ap (λ rest. k ∷ rest) (registers_entries table ks)

pub entry_tells : (table : Table) (ks : List ℕ) (k x : ℕ) → HasPlace (entries table ks) k x → Contains ks k × (x ≡ place_or_zero (place_at table k))
entry_tells table [] k x has = absurd (no_member _ has)
entry_tells table (j ∷ ks) k x has =
    elim (member_cases (record { register = record { 0 = j }; place = place_or_zero (place_at table j) }) (record { register = record { 0 = k }; place = x }) (entries table ks) has) [
      | inl same ↦
          let e : j ≡ k = ap (λ (q : Place). q.register.0) same in
          let f : place_or_zero (place_at table j) ≡ x = ap (λ (q : Place). q.place) same in
          (subst (λ n. Contains (j ∷ ks) n) e (here j ks), sym f ∙ ap (λ n. place_or_zero (place_at table n)) e)
      | inr later ↦ let rest = entry_tells table ks k x later in (there j k ks rest.0, rest.1)
    ]

pub some_place : (o : Option ℕ) (y x : ℕ) → o ≡ Some y → x ≡ place_or_zero o → o ≡ Some x
some_place o y x some e = some ∙ ap Some (sym (e ∙ ap place_or_zero some))

-- what instruction i writes

pub writes_at : (code : List Line) (i : ℕ) (d : VReg) (o : Option Line) → slice_get code i ≡ o → written_in o ≡ Some d → WritesAt code i d.0
writes_at code i d None is e = absurd (cc)
writes_at code i d (Some line) is e = (line, is, e)

pub at_writes : (code : List Line) (i k : ℕ) → WritesAt code i k → written_in (slice_get code i) ≡ Some (record { 0 = k })
at_writes code i k at = ap written_in at.1 ∙ at.2

-- the next instruction of one that falls through
fall_next : (i : Instr VReg) (at : ℕ) → is_some (next_of i at).fall ≡ true → (next_of i at).fall ≡ Some (at + 1)
fall_next instr.Halt at e = absurd (cc)
fall_next (instr.Jmp target) at e = absurd (cc)
fall_next _ at e = refl

pub falls_edge : (code : List Line) (i : ℕ) (o : Option Line) → slice_get code i ≡ o → falls_in i o ≡ true → Edge code i (i + 1)
falls_edge code i None is e = absurd (cc)
falls_edge code i (Some line) is e = (line, is, inl (fall_next line.instr i e))

-- what the place of a write tells
record IsWritten (code : List Line) (r i : ℕ) (table : Table) (write : Option ℕ) : Type 0 where
  some : (is_some write ≡ true) ↔ ((k : ℕ) × WritesAt code i k)
  low : (x : ℕ) → write ≡ Some x → x < r
  apart : (k x : ℕ) → Stays code i k → write ≡ Some x → place_at table k ≡ Some x → ⊥

not_both : {X : Type 0} (x : ℕ) (o : Option ℕ) → o ≡ None → o ≡ Some x → X
not_both x o none some = absurd (let off : None ≡ Some x = sym none ∙ some in cc)

module _ (code : List Line) (p r i : ℕ) (row : PlanRow) (wishes left : Table) (order : p ≤ r) (here_i : i < length code) (has_room : HasRoom code p r)
    (closed : IsClosedCode code) (wish : AreWishes code r i wishes) (follows : Follows code p i wishes row left) where
  low_live : (k : ℕ) → LiveIn code i k → k < 128
  low_live k live = live_small code closed live.0 i k live.1

  given : IsPartial code p r i follows.table × ((k : ℕ) → LiveIn code i k → (x : ℕ) × (place_at follows.table k ≡ Some x))
  given = given_all code p r i wishes follows.before follows.cross order here_i has_room low_live wish follows.is_before follows.is_cross follows.table follows.given

  abbrev table : Table
  table = follows.table

  partial : IsPartial code p r i follows.table
  partial = given.0

  -- a write to a register that has no place in the row
  fresh_low : (d x : ℕ) → WritesAt code i d → place_at follows.table d ≡ None → IsLeastApart follows.stay follows.table x → x < r
  fresh_low d x at unset least =
      let new : list_any (nat_eq d) follows.stay ≡ false = not_true (list_any (nat_eq d) follows.stay) (λ e.
      ((follows.is_stay.exact d).0 ((is_member-Decides unsigned_Decides follows.stay d).0 e)).1 at) in
      let after : HasSize (IsAfter code i) (length (follows.stay ++ d ∷ [])) = (
        follows.stay ++ d ∷ [],
        IsDistinct-push nat_eq_equiv follows.stay d (rising_distinct (Stays code i) follows.stay follows.is_stay) new,
        (λ k. (
          λ has. elim (Contains-push_cases follows.stay d k has) [
            | inl old ↦ inl ((follows.is_stay.exact k).0 old).0
            | inr same ↦ inr (subst (λ n. WritesAt code i n) same at)
          ],
          λ is_after. after_listed k is_after,
        )),
        refl,
      ) in
      let enough = has_room.after i (length (follows.stay ++ d ∷ [])) here_i after in
      let few = room follows.table (IsAfter code i) x d (follows.stay ++ d ∷ []) after_listed (inr at) unset
      (λ y less. let has = least.least y less in (has.0, inl ((follows.is_stay.exact has.0).0 has.1).0, has.2)) in
      omega arith
    where
      not_true : (b : Bool) → (b ≡ true → ⊥) → b ≡ false
      not_true true never = absurd (never refl)
      not_true false never = refl

      after_listed : (k : ℕ) → IsAfter code i k → Contains (follows.stay ++ d ∷ []) k
      after_listed k is_after = elim (cases_eq k d) [
        | inl same ↦ subst (λ n. Contains (follows.stay ++ d ∷ []) n) (sym same) (Contains-push follows.stay d)
        | inr other ↦ Contains-append_left follows.stay (d ∷ []) k ((follows.is_stay.exact k).1 (elim is_after [
          | inl out ↦ (out, λ writes. other (one_written code i k d writes at))
          | inr writes ↦ absurd (other (one_written code i k d writes at))
        ]))
      ]

  written_by_place : (d : VReg) → WritesAt code i d.0 → (o : Option ℕ) → place_at follows.table d.0 ≡ o → IsPlaceFor follows.stay follows.table o row.write
      → IsWritten code r i follows.table row.write
  written_by_place d at (Some y) is e = record {
    some = ((λ on. (d.0, at)), (λ writes. ap is_some e));
    low = λ x some. subst (λ n. n < r) (same_Some y x (sym e ∙ some)) (partial.low d.0 y is);
    apart = λ k x stays some has.
        let same = partial.apart k d.0 x has (is ∙ sym e ∙ some) in
        stays.1 (subst (λ n. WritesAt code i n) (sym same) at);
  }
  written_by_place d at None is place = record {
    some = ((λ on. (d.0, at)), (λ writes. ap is_some place.1));
    low = λ x some. subst (λ n. n < r) (same_Some place.0 x (sym place.1 ∙ some)) (fresh_low d.0 place.0 at is place.2);
    apart = λ k x stays some has.
        place.2.free k ((follows.is_stay.exact k).1 stays) (has ∙ sym some ∙ place.1);
  }

  written_tells : (o : Option VReg) → written_in (slice_get code i) ≡ o → IsWritePlace follows.stay follows.table o row.write → IsWritten code r i follows.table row.write
  written_tells None e write = record {
    some = (
      (λ on. absurd (let off : is_some row.write ≡ false = ap is_some write in cc)),
      (λ at. absurd (let other : None ≡ Some (record { 0 = at.0 }) = sym e ∙ at_writes code i at.0 at.1 in cc)),
    );
    low = λ x some. not_both x row.write write some;
    apart = λ k x stays some has. not_both x row.write write some;
  }
  written_tells (Some d) e write = written_by_place d (writes_at code i d (slice_get code i) refl e) (place_at follows.table d.0) refl write

  written : IsWritten code r i follows.table row.write
  written = written_tells (written_in (slice_get code i)) refl follows.write

  abbrev qs : List Place
  qs = entries follows.table follows.before

  has_place : (k x : ℕ) → HasPlace (entries follows.table follows.before) k x → LiveIn code i k × (place_at follows.table k ≡ Some x)
  has_place k x has =
      let tells = entry_tells follows.table follows.before k x has in
      let live = (follows.is_before.exact k).0 tells.0 in
      let at = given.1 k live in
      (live, some_place (place_at follows.table k) at.0 x at.1 tells.1)

  place_of_live : (k : ℕ) → LiveIn code i k → place_at follows.table k ≡ Some (place_in (entries follows.table follows.before) k)
  place_of_live k live =
      let has = subst (λ (ks : List ℕ). Contains ks k) (sym (registers_entries follows.table follows.before)) ((follows.is_before.exact k).1 live) in
      (has_place k (place_in (entries follows.table follows.before) k) (placed (entries follows.table follows.before) k has)).1

  lists : Lists (LiveIn code i) (registers_of (entries follows.table follows.before))
  lists = subst (λ (ks : List ℕ). Lists (LiveIn code i) ks) (sym (registers_entries follows.table follows.before)) follows.is_before

  own : HaveOwnPlaces (entries follows.table follows.before)
  own k l x share =
      let less = share.0 in
      let same = partial.apart k l x (has_place k x share.1).1 (has_place l x share.2).1 in
      omega arith

  valid_entries : IsValidRow code p r i (record { places = entries follows.table follows.before; write = row.write })
  valid_entries = record {
    lists = lists;
    writes = written.some;
    in_range = λ q has. partial.low q.register.0 q.place (has_place q.register.0 q.place has).1;
    write_in_range = written.low;
    apart = distinct (entries follows.table follows.before) (rises_by_index (entries follows.table follows.before) lists.rising) own;
    write_apart = λ k w stays e same. written.apart k w stays e (place_of_live k (stays_live code i k stays) ∙ ap Some same);
    private = λ k crosses. partial.private k (place_in (entries follows.table follows.before) k) crosses (place_of_live k (crosses_live code i k crosses));
  }

  pub row_valid : IsValidRow code p r i row
  row_valid = subst (λ (s : PlanRow). IsValidRow code p r i s) (λ j. record { places = sym follows.places j; write = row.write }) valid_entries

  -- the wishes for the next row

  module _ (edge : Edge code i (i + 1)) where
    stays_or_written : (k : ℕ) → LiveIn code (i + 1) k → (WritesAt code i k → ⊥) → Stays code i k
    stays_or_written k live kept = ((i + 1, edge, live), kept)

    wishes_put : (o : Option VReg) → written_in (slice_get code i) ≡ o → AreWishes code r (i + 1) (put o row.write follows.table)
    wishes_put None e = record { low = partial.low; apart = λ k l x live_k live_l. partial.apart k l x }
    wishes_put (Some d) e = record {
      low = λ k x at. elim (cases_eq k d.0) [
        | inl same ↦ written.low x (at_d k x same at)
        | inr other ↦ partial.low k x (at_other k x other at)
      ];
      apart = λ k l x live_k live_l at_k at_l. elim (cases_eq k d.0) [
        | inl same_k ↦ elim (cases_eq l d.0) [
          | inl same_l ↦ same_k ∙ sym same_l
          | inr other ↦ absurd (written.apart l x (survivor l live_l other) (at_d k x same_k at_k) (at_other l x other at_l))
        ]
        | inr other_k ↦ elim (cases_eq l d.0) [
          | inl same_l ↦ absurd (written.apart k x (survivor k live_k other_k) (at_d l x same_l at_l) (at_other k x other_k at_k))
          | inr other_l ↦ partial.apart k l x (at_other k x other_k at_k) (at_other l x other_l at_l)
        ]
      ];
    }
      where
        writes : WritesAt code i d.0
        writes = writes_at code i d (slice_get code i) refl e

        inside : d.0 < length follows.table
        inside = let small = (closed.registers i writes.0 writes.1).written in let low = subst IsSmall writes.2 small in let size = partial.size in omega arith

        at_d : (k x : ℕ) → k ≡ d.0 → place_at (set follows.table d.0 row.write) k ≡ Some x → row.write ≡ Some x
        at_d k x same at = sym (set_here follows.table d.0 row.write inside) ∙ subst (λ n. place_at (set follows.table d.0 row.write) n ≡ Some x) same at

        at_other : (k x : ℕ) → k ≢ d.0 → place_at (set follows.table d.0 row.write) k ≡ Some x → place_at follows.table k ≡ Some x
        at_other k x other at = sym (set_there follows.table d.0 k row.write other) ∙ at

        survivor : (k : ℕ) → LiveIn code (i + 1) k → k ≢ d.0 → Stays code i k
        survivor k live other = stays_or_written k live (λ at. other (one_written code i k d.0 at writes))

  no_wishes : (j : ℕ) → AreWishes code r j nothing
  no_wishes j = record { low = λ k x at. absurd (nothing_has k x at); apart = λ k l x live_k live_l at. absurd (nothing_has k x at) }

  pub wishes_left : AreWishes code r (i + 1) left
  wishes_left = subst (λ (t : Table). AreWishes code r (i + 1) t) (sym follows.leaves) (by (falls_in i (slice_get code i)) refl)
    where
      by : (b : Bool) → falls_in i (slice_get code i) ≡ b
          → AreWishes code r (i + 1) (if b then put (written_in (slice_get code i)) row.write follows.table else nothing)
      by true e = wishes_put (falls_edge code i (slice_get code i) refl e) (written_in (slice_get code i)) refl
      by false e = no_wishes (i + 1)

-- rows so far
record AreValid (code : List Line) (p r n : ℕ) (rows : List PlanRow) (wishes : Table) : Type 0 where
  size : length rows ≡ n
  valid : (i : ℕ) (row : PlanRow) → slice_get rows i ≡ Some row → IsValidRow code p r i row
  wish : AreWishes code r n wishes

valid_more : (code : List Line) (p r n : ℕ) (earlier rows : List PlanRow) (row : PlanRow) (wished wishes : Table) → rows ≡ earlier ++ row ∷ []
    → AreValid code p r n earlier wished → IsValidRow code p r n row → AreWishes code r (n + 1) wishes → AreValid code p r (n + 1) rows wishes
valid_more code p r n earlier rows row wished wishes e before valid wish = record {
  size = ap (λ (s : List PlanRow). length s) e ∙ length-append earlier (row ∷ []) ∙ (let size = before.size in omega arith);
  valid = λ i other is.
      let at = subst (λ (s : List PlanRow). slice_get s i ≡ Some other) e is in
      let inside = slice_get_within (earlier ++ row ∷ []) i other at in
      let long = length-append earlier (row ∷ []) in
      let size = before.size in
      elim (cases_eq i n) [
        | inl last ↦
            let same = get_or_from_slice_get (earlier ++ row ∷ []) i other other at in
            let seam = get_or-append_seam earlier row [] other in
            let place : i ≡ length earlier = omega arith in
            let is_row : other ≡ row = sym same ∙ ap (λ m. get_or (earlier ++ row ∷ []) m other) place ∙ seam in
            subst (λ m. IsValidRow code p r m other) (sym last) (subst (λ (s : PlanRow). IsValidRow code p r n s) (sym is_row) valid)
        | inr less ↦
            let low : i < length earlier = omega arith in
            let same = get_or_from_slice_get (earlier ++ row ∷ []) i other other at in
            let first = get_or_append_left earlier (row ∷ []) other i low in
            before.valid i other (slice_get-get_or earlier i other low ∙ ap Some (sym first ∙ same))
      ];
  wish = wish;
}

walked_valid : (code : List Line) (p r : ℕ) → p ≤ r → IsClosedCode code → HasRoom code p r → (n : ℕ) → n ≤ length code → (rows : List PlanRow) (wishes : Table)
    → Walked code p n rows wishes → AreValid code p r n rows wishes
walked_valid code p r order closed has_room zero within rows wishes walked = record {
  size = ap (λ (s : List PlanRow). length s) walked.0;
  valid = λ i row is. absurd (let inside = slice_get_within rows i row is in let e = ap (λ (s : List PlanRow). length s) walked.0 in omega arith);
  wish = subst (λ (t : Table). AreWishes code r 0 t) (sym walked.1) (record {
    low = λ k x at. absurd (nothing_has k x at);
    apart = λ k l x live_k live_l at. absurd (nothing_has k x at);
  });
}
walked_valid code p r order closed has_room (suc n) within rows wishes walked =
    let before = walked_valid code p r order closed has_room n (omega arith) walked.0 walked.1 walked.3 in
    let here_n : n < length code = omega arith in
    let valid = row_valid code p r n walked.2 walked.1 wishes order here_n has_room closed before.wish walked.4 in
    let left = wishes_left code p r n walked.2 walked.1 wishes order here_n has_room closed before.wish walked.4 in
    let more = valid_more code p r n walked.0 rows walked.2 walked.1 wishes walked.5 before valid left in
    subst (λ m. AreValid code p r m rows wishes) (add-one n) more

-- the walk with sizes that have room is a valid plan
pub walk_valid : (code : List Line) (p r : ℕ) (plan : Plan) → p ≤ r → r ≤ 128 → IsClosedCode code → HasRoom code p r → IsWalk code p r plan → IsValidPlan code plan
walk_valid code p r plan order few closed has_room walk =
    let all = walked_valid code p r order closed has_room (length code) (omega arith) plan.rows walk.rows.0 walk.rows.1 in
    let private = walk.private in
    let total = walk.all in record {
      order = omega arith;
      few = omega arith;
      one_each = all.size;
      rows = λ i row is.
          subst (λ n. IsValidRow code n plan.r i row) (sym private) (subst (λ n. IsValidRow code p n i row) (sym total) (all.valid i row is));
    }
