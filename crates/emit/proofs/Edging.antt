-- What the code of an edge asks for.
use Rattle.std.proofs.Common.{◌≡◌, ℕ, suc, zero, ◌+◌, ◌-◌, ◌<◌, List, [], ◌∷◌, length, subst, Option, Some, None, true, refl, sym, ap, ◌∙◌, inl, inr, arith}
use Rattle.std.specs.Prelude.{slice_get, slice_index, ◌||◌, if◌then◌else◌}
use Rattle.std.proofs.lemmas.Bool.Decides.{nat_tests}
use Rattle.std.proofs.lemmas.Option.{same_Some, slice_get_within}
use Rattle.micro_isa.specs.declared.instr.Instr.{Instr}
use Rattle.micro_isa.specs.declared.instr.Instr.TheVariants as instr
use Rattle.micro_isa.specs.declared.program.VReg.{VReg}
use Rattle.micro_isa.specs.declared.program.Line.{Line}
use Rattle.micro_isa.specs.Columns.{written_by, next_of}
use Rattle.flow_graph.specs.Paths.{Edge, IsClosedCode}
use Rattle.micro_isa.specs.declared.image.PReg.{PReg}
use Rattle.edge_moves.specs.MoveSteps.{Pair, is_source, moving, steps_from, move_steps}
use Rattle.edge_moves.specs.ParallelMove.{is_target, AreDistinct}
use Rattle.plan.specs.declared.row.Place.{Place}
use Rattle.plan.specs.declared.row.Plan.{Plan}
use Rattle.plan.specs.ValidPlans.{IsValidPlan}
use Rattle.emitted.specs.Edges.{row_at, written_in, next_at, place_after, place, pairs_from, free_from, edge_pairs, edge_steps}
use Rattle.emitted.proofs.Places.{has_reg}
use Rattle.emitted.proofs.Rows.{has_live}
use Rattle.emitted.proofs.WordsOf.{distinct}
use Rattle.emit.specs.Tables.{AreAfter}

pub free_more : (pairs : List Pair) (n q : ℕ) → q < n → (is_source pairs q || is_target pairs q) ≡ true → free_from pairs (n - (q + 1)) (q + 1) ≡ free_from pairs (n - q) q
free_more pairs n q lt named =
    let e : n - q ≡ suc (n - (q + 1)) = omega arith in
    sym (ap (λ k. free_from pairs k q) e ∙ ap (λ b. if b then free_from pairs (n - (q + 1)) (q + 1) else Some (place q)) named)

pub fall_edge : (code : List Line) (i j : ℕ) → (next_at (slice_get code i) i).fall ≡ Some j → Edge code i j
fall_edge code i j e = by (slice_get code i) refl e
  where
    by : (o : Option Line) → slice_get code i ≡ o → (next_at o i).fall ≡ Some j → Edge code i j
    by None is h = absurd (cc)
    by (Some l) is h = (l, is, inl h)

pub jump_edge : (code : List Line) (i j : ℕ) → (next_at (slice_get code i) i).jump ≡ Some j → Edge code i j
jump_edge code i j e = by (slice_get code i) refl e
  where
    by : (o : Option Line) → slice_get code i ≡ o → (next_at o i).jump ≡ Some j → Edge code i j
    by None is h = absurd (cc)
    by (Some l) is h = (l, is, inr h)

pub distinct_edge : (code : List Line) (plan : Plan) (i j : ℕ) → IsValidPlan code plan → IsClosedCode code → Edge code i j → AreDistinct (edge_pairs plan (written_in (slice_get code i)) i j)
distinct_edge code plan i j valid closed edge =
    let l = edge.0 in
    let pairs = distinct code plan plan.r (λ q. record { 0 = q }) (λ q k ql kl e. e) (λ q lt. lt) valid closed i j l (written_by l.instr) (slice_get_within code i l edge.1) edge.1 refl edge.2 in
    subst_at (slice_get code i) edge.1 pairs
  where
    subst_at : (o : Option Line) → o ≡ Some edge.0 → AreDistinct (edge_pairs plan (written_by edge.0.instr) i j) → AreDistinct (edge_pairs plan (written_in o) i j)
    subst_at o is d = rw is d

-- what moves nothing takes no steps
pub none_left : (free : Option PReg) (n : ℕ) → steps_from free n [] ≡ []
none_left None zero = refl
none_left None (suc n) = none_left None n
none_left (Some f) zero = refl
none_left (Some f) (suc n) = none_left (Some f) n

pub no_steps : (pairs : List Pair) (free : Option PReg) → moving pairs ≡ [] → move_steps pairs free ≡ []
no_steps pairs free e = ap (steps_from free (length pairs)) e ∙ none_left free (length pairs)

-- an instruction falls to the next one
pub fall_next : (code : List Line) (i j : ℕ) → (next_at (slice_get code i) i).fall ≡ Some j → j ≡ i + 1
fall_next code i j e = by (slice_get code i) e
  where
    falls : (instr : Instr VReg) → (next_of instr i).fall ≡ Some j → j ≡ i + 1
    falls instr.Halt h = absurd (cc)
    falls (instr.Jmp target) h = absurd (cc)
    falls _ h = sym (same_Some _ _ h)

    by : (o : Option Line) → (next_at o i).fall ≡ Some j → j ≡ i + 1
    by None h = absurd (cc)
    by (Some l) h = falls l.instr h

-- the table gives the pairs of the edge

agree : (f g : ℕ → ℕ) (qs : List Place) → ((k : ℕ) → has_reg qs k ≡ true → f k ≡ g k) → pairs_from f qs ≡ pairs_from g qs
agree f g [] h = refl
agree f g (q ∷ qs) h =
    let here : f q.register.0 ≡ g q.register.0 = h q.register.0 (grind (arith, nat_tests)) in
    let rest : pairs_from f qs ≡ pairs_from g qs = agree f g qs (λ k e. h k (grind (arith, nat_tests))) in
    (λ a. (place (here a), place q.place) ∷ rest a)

pub same_pairs : (code : List Line) (plan : Plan) (i j : ℕ) (table : List ℕ) → IsValidPlan code plan → IsClosedCode code → AreAfter code plan i table → Edge code i j
    → pairs_from (λ k. slice_index table k) (row_at plan j).places ≡ edge_pairs plan (written_in (slice_get code i)) i j
same_pairs code plan i j table valid closed after edge =
    let there = closed.closed i j edge in
    agree (λ k. slice_index table k) (place_after (row_at plan i) (written_in (slice_get code i))) (row_at plan j).places
    (λ k h. after.each k (j, edge, has_live code plan valid j there k h))

pub table_distinct : (code : List Line) (plan : Plan) (i j : ℕ) (table : List ℕ) → IsValidPlan code plan → IsClosedCode code → AreAfter code plan i table → Edge code i j
    → AreDistinct (pairs_from (λ k. slice_index table k) (row_at plan j).places)
table_distinct code plan i j table valid closed after edge =
    subst AreDistinct (sym (same_pairs code plan i j table valid closed after edge)) (distinct_edge code plan i j valid closed edge)

pub table_steps : (code : List Line) (plan : Plan) (i j : ℕ) (table : List ℕ) → IsValidPlan code plan → IsClosedCode code → AreAfter code plan i table → Edge code i j
    → move_steps (pairs_from (λ k. slice_index table k) (row_at plan j).places) (free_from (pairs_from (λ k. slice_index table k) (row_at plan j).places) plan.r 0) ≡ edge_steps code plan i j
table_steps code plan i j table valid closed after edge =
    ap (λ ps. move_steps ps (free_from ps plan.r 0)) (same_pairs code plan i j table valid closed after edge)
