-- An edge on which nothing moves takes no steps: so a plan by the fit over the whole program has no glue, and the falls of a settled walk have none.
use Rattle.std.proofs.Common.{◌≡◌, ℕ, zero, suc, ◌+◌, ◌<◌, ◌==◌, Bool, true, false, List, [], ◌∷◌, Option, Some, None, length, refl, sym, ap, subst, ◌∙◌, arith}
use Rattle.std.specs.Prelude.{is_some, slice_get, if◌then◌else◌}
use Rattle.std.specs.List.{Contains}
use Rattle.std.proofs.lemmas.Bool.{eqb-true, eqb-false}
use Rattle.std.proofs.lemmas.Option.{slice_get_within}
use Rattle.micro_isa.specs.declared.program.Line.{Line}
use Rattle.micro_isa.specs.declared.program.VReg.{VReg}
use Rattle.micro_isa.specs.Pieces.{total}
use Rattle.micro_isa.specs.Columns.{written_by}
use Rattle.flow_graph.specs.Paths.{Edge, IsClosedCode}
use Rattle.liveness.specs.Liveness.{LiveIn}
use Rattle.liveness.specs.Sets.{Lists}
use Rattle.edge_moves.specs.MoveSteps.{moving}
use Rattle.plan.specs.declared.row.Place.{Place}
use Rattle.plan.specs.declared.row.PlanRow.{PlanRow}
use Rattle.plan.specs.declared.row.Plan.{Plan}
use Rattle.plan.specs.ValidPlans.{place_in, registers_of, IsValidPlan}
use Rattle.range_colour.specs.PlacedPlans.{IsPlacedBy, IsWholeFit, MovesNothing}
use Rattle.plan.proofs.Entries.{entry_listed, place_once, rises_by_index}
use Rattle.range_colour.proofs.Valid.{is_behind, is_first, nothing_moves}
use Rattle.point_walk.specs.Walks.{falls_in}
use Rattle.point_walk.specs.Settling.{FallsStill}
use Rattle.emitted.specs.Edges.{row_in, row_at, place_or_zero, place_after, pairs_from, free_from, edge_pairs, edge_steps, next_at, steps_to, fall_steps, written_in}
use Rattle.emitted.specs.Words.{block_size, glue_of, size_with_jump}
use Rattle.emitted.proofs.Rows.{item_at}
use Rattle.emit.specs.Sized.{with_places}
use Rattle.emit.proofs.Edging.{fall_edge, fall_next, jump_edge, no_steps}

nothing_moving : (f : ℕ → ℕ) (places : List Place) → ((q : Place) → Contains places q → f q.register.0 ≡ q.place) → moving (pairs_from f places) ≡ []
nothing_moving f [] each = refl
nothing_moving f (q ∷ places) each =
    by (f q.register.0 == q.place) refl (nothing_moving f places (λ x has. each x (is_behind q places x has)))
  where
    by : (b : Bool) → (f q.register.0 == q.place) ≡ b → moving (pairs_from f places) ≡ [] → moving (pairs_from f (q ∷ places)) ≡ []
    by true e rest = rw e rest
    by false e rest = absurd (eqb-false (f q.register.0) q.place e (each q (is_first q places)))

some_is : (x y : VReg) → Some x ≡ Some y → x ≡ y
some_is x y e = cc

module _ (code : List Line) (plan : Plan) (one_each : length plan.rows ≡ length code) (lists : (i : ℕ) (row : PlanRow) → slice_get plan.rows i ≡ Some row → Lists (LiveIn code i) (registers_of row.places))
    (closed : IsClosedCode code) where
  abbrev row : (i : ℕ) → i < length code → (x : PlanRow) × (slice_get plan.rows i ≡ Some x)
  row i less = item_at plan.rows i (omega arith)

  -- a register that lives on the way is at its place after the instruction
  after_is : (i j : ℕ) (mine next : PlanRow) (k : ℕ) → slice_get plan.rows i ≡ Some mine → slice_get plan.rows j ≡ Some next → MovesNothing code plan i j → LiveIn code j k
      → (o : Option Line) → slice_get code i ≡ o → place_after mine (written_in o) k ≡ place_in next.places k
  after_is i j mine next k is_mine is_next moves live None at = (moves mine next is_mine is_next k live).1 (λ writes. let there = writes.1 in absurd (cc))
  after_is i j mine next k is_mine is_next moves live (Some line) at = by (written_by line.instr) refl
    where
      by : (w : Option VReg) → written_by line.instr ≡ w → place_after mine w k ≡ place_in next.places k
      by None e = (moves mine next is_mine is_next k live).1 (λ writes.
          let there = writes.1 in let same : writes.0 ≡ line = cc in
          let wrote = subst (λ (l : Line). written_by l.instr ≡ Some (record { 0 = k })) same writes.2 in absurd (cc))
      by (Some d) e = at_register (k == d.0) refl
        where
          at_register : (b : Bool) → (k == d.0) ≡ b → (if b then place_or_zero mine.write else place_in mine.places k) ≡ place_in next.places k
          at_register true same =
              let is : k ≡ d.0 = eqb-true k d.0 same in
              let register : d ≡ record { 0 = k } = λ i. record { 0 = sym is i } in
              ap place_or_zero ((moves mine next is_mine is_next k live).0 (line, at, e ∙ ap Some register))
          at_register false other =
              (moves mine next is_mine is_next k live).1 (λ writes.
              let there = writes.1 in let same : writes.0 ≡ line = cc in
              let wrote = subst (λ (l : Line). written_by l.instr ≡ Some (record { 0 = k })) same writes.2 in
              let register : Some d ≡ Some (record { 0 = k }) = sym e ∙ wrote in
              let is : d.0 ≡ k = ap (λ (v : VReg). v.0) (some_is d (record { 0 = k }) register) in
              eqb-false k d.0 other (sym is))

  edge_still : (i j : ℕ) → Edge code i j → MovesNothing code plan i j → edge_steps code plan i j ≡ []
  edge_still i j edge moves =
      let mine = row i (slice_get_within code i edge.0 edge.1) in
      let next = row j (closed.closed i j edge) in
      let here : row_at plan i ≡ mine.0 = ap row_in mine.1 in
      let there : row_at plan j ≡ next.0 = ap row_in next.1 in
      let listed = lists j next.0 next.1 in
      let none : moving (pairs_from (place_after mine.0 (written_in (slice_get code i))) next.0.places) ≡ [] =
      nothing_moving (place_after mine.0 (written_in (slice_get code i))) next.0.places (λ q has.
      let k = q.register.0 in
      let live = (listed.exact k).0 (entry_listed next.0.places q has) in
      after_is i j mine.0 next.0 k mine.1 next.1 moves live (slice_get code i) refl
      ∙ place_once next.0.places k q.place (rises_by_index next.0.places listed.rising) has) in
      let pairs : moving (edge_pairs plan (written_in (slice_get code i)) i j) ≡ [] = (λ a. moving (pairs_from (place_after (here a) (written_in (slice_get code i))) (there a).places)) ∙ none in
      no_steps (edge_pairs plan (written_in (slice_get code i)) i j) (free_from (edge_pairs plan (written_in (slice_get code i)) i j) plan.r 0) pairs

module _ (code : List Line) (p r : ℕ) (f : ℕ → ℕ) (plan : Plan) (placed : IsPlacedBy code p r (λ i. f) plan) (closed : IsClosedCode code) where
  edge_none : (i j : ℕ) → Edge code i j → edge_steps code plan i j ≡ []
  edge_none i j edge =
      edge_still code plan placed.rows.one_each (λ m row is. (placed.rows.each m row is).lists) closed i j edge (nothing_moves code p r (λ m. f) plan i j placed edge (λ k live. refl))

  to_none : (i : ℕ) (o : Option ℕ) → ((j : ℕ) → o ≡ Some j → Edge code i j) → steps_to code plan i o ≡ []
  to_none i None edge = refl
  to_none i (Some j) edge = edge_none i j (edge j refl)

  words_none : (i : ℕ) → length (fall_steps code plan i) + block_size code plan i ≡ 0
  words_none i =
      let fall = to_none i (next_at (slice_get code i) i).fall (λ j e. fall_edge code i j e) in
      let jump = to_none i (next_at (slice_get code i) i).jump (λ j e. jump_edge code i j e) in
      λ a. length (fall a) + size_with_jump (jump a)

  total_none : (g : ℕ → ℕ) → ((i : ℕ) → g i ≡ 0) → (n : ℕ) → total g n ≡ 0
  total_none g each zero = refl
  total_none g each (suc n) = let rest = total_none g each n in let here = each n in omega arith

  pub no_glue : glue_of code plan ≡ 0
  no_glue = total_none (λ i. length (fall_steps code plan i) + block_size code plan i) words_none (length code)

pub whole_no_glue : (code : List Line) (p r : ℕ) (plan : Plan) → IsClosedCode code → IsWholeFit code p r (Some plan) → glue_of code plan ≡ 0
whole_no_glue code p r plan closed fit = no_glue code p r fit.0 plan fit.3 closed

-- falls on which nothing moves

falls_there : (i j : ℕ) (o : Option Line) → (next_at o i).fall ≡ Some j → falls_in i o ≡ true
falls_there i j None e = absurd (cc)
falls_there i j (Some line) e = ap is_some e

pub still_falls : (code : List Line) (plan : Plan) → IsClosedCode code → IsValidPlan code plan → FallsStill code plan → (r i : ℕ) → fall_steps code (with_places plan r) i ≡ []
still_falls code plan closed valid still r i = by (next_at (slice_get code i) i).fall refl
  where
    by : (o : Option ℕ) → (next_at (slice_get code i) i).fall ≡ o → steps_to code (with_places plan r) i o ≡ []
    by None e = refl
    by (Some j) e =
        let moves : MovesNothing code (with_places plan r) i j = subst (MovesNothing code plan i) (sym (fall_next code i j e)) (still i (falls_there i j (slice_get code i) e)) in
        edge_still code (with_places plan r) valid.one_each (λ m row is. (valid.rows m row is).lists) closed i j (fall_edge code i j e) moves
