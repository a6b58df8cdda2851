-- What the costs of edges tell of the glue with more or fewer places.
use Rattle.std.proofs.Common.{◌≡◌, ◌≢◌, ℕ, zero, suc, ◌+◌, ◌<◌, ◌≤◌, List, [], ◌∷◌, ◌++◌, length, Option, Some, None, Bool, true, false, refl, sym, ap, ◌∙◌, arith}
use Rattle.std.specs.Prelude.{is_some, nat_lt, not, slice_get, slice_index, ◌==◌, ◌||◌, if◌then◌else◌}
use Rattle.std.proofs.lemmas.Bool.{eq-eqb}
use Rattle.std.proofs.lemmas.Bool.Decides.{nat_tests}
use Rattle.std.proofs.lemmas.List.{length-map}
use Rattle.micro_isa.specs.declared.limits.TheConstants.{MOST_FILE}
use Rattle.micro_isa.specs.declared.program.Line.{Line}
use Rattle.micro_isa.specs.declared.image.PReg.{PReg}
use Rattle.flow_graph.specs.Paths.{Edge, IsClosedCode}
use Rattle.edge_moves.specs.declared.step.Step.TheVariants.{Mov}
use Rattle.edge_moves.specs.MoveSteps.{Pair, is_source, first_free, without, turn_at, moving, steps_from, move_steps}
use Rattle.edge_moves.specs.ParallelMove.{IsFree, is_target}
use Rattle.edge_moves.specs.Remaining.{NoneStay}
use Rattle.edge_moves.specs.Costs.{most_steps}
use Rattle.edge_moves.proofs.Lists.{length-moving, stay-moving}
use Rattle.plan.specs.declared.row.Place.{Place}
use Rattle.plan.specs.declared.row.Plan.{Plan}
use Rattle.plan.specs.ValidPlans.{IsValidPlan}
use Rattle.emitted.specs.Edges.{place, row_at, next_at, pair_from, pairs_from, free_from, fall_steps, most_edge_steps}
use Rattle.emitted.specs.Words.{block_size}
use Rattle.emitted.proofs.FewSteps.{few_places}
use Rattle.emitted.proofs.Places.{free_is}
use Rattle.emitted.proofs.Rows.{row_valid, listed_below}
use Rattle.emit.specs.declared.edge_costs.EdgeCosts.{EdgeCosts}
use Rattle.emit.specs.Addressed.{size_of_block}
use Rattle.emit.specs.Limits.{most_line_glue}
use Rattle.emit.specs.Sized.{AreCostsOf, AreCostsTo, AreFew, glue_with, place_or_end, steps_with, takes_nothing, with_places}
use Rattle.emit.specs.Tables.{AreAfter}
use Rattle.emit.proofs.Filling.{empty}
use Rattle.emit.proofs.Edging.{none_left, no_steps, same_pairs}
use Rattle.emit.proofs.Sizing.{block_of}

found_above : (pairs : List Pair) (m q end : ℕ) → end ≡ q + m → q ≤ place_or_end end (free_from pairs m q)
found_above pairs zero q end e = omega arith
found_above pairs (suc m) q end e = by (is_source pairs q || is_target pairs q) (found_above pairs m (q + 1) end (omega arith))
  where
    by : (b : Bool) → q + 1 ≤ place_or_end end (free_from pairs m (q + 1)) → q ≤ place_or_end end (if b then free_from pairs m (q + 1) else Some (place q))
    by true above = omega arith
    by false above = omega arith

-- among the first n places there is a free one where the first of all is
pub free_within : (pairs : List Pair) (m n q end stop : ℕ) → n ≤ m → end ≡ q + m → stop ≡ q + n → is_some (free_from pairs n q) ≡ nat_lt (place_or_end end (free_from pairs m q)) stop
free_within pairs m zero q end stop le e s =
    let above = found_above pairs m q end e in
    grind (arith, nat_tests)
free_within pairs zero (suc n) q end stop le e s = absurd (omega arith)
free_within pairs (suc m) (suc n) q end stop le e s =
    by (is_source pairs q || is_target pairs q) (free_within pairs m n (q + 1) end stop (omega arith) (omega arith) (omega arith))
  where
    by : (b : Bool) → is_some (free_from pairs n (q + 1)) ≡ nat_lt (place_or_end end (free_from pairs m (q + 1))) stop
        → is_some (if b then free_from pairs n (q + 1) else Some (place q)) ≡ nat_lt (place_or_end end (if b then free_from pairs m (q + 1) else Some (place q))) stop
    by true rest = rest
    by false rest = let less : q < stop = omega arith in grind (arith, nat_tests)

either_same : (b : Bool) (n : ℕ) → (if b then n else n) ≡ n
either_same true n = refl
either_same false n = refl

pub nothing_few : AreFew (record { unnamed = 0; with_free = 0; without = 0 })
nothing_few = record { with_free = omega arith; without = omega arith }

-- what moves nothing costs nothing
pub nothing_costs : (pairs : List Pair) → length (moving pairs) ≡ 0 → AreCostsOf pairs (record { unnamed = 0; with_free = 0; without = 0 })
nothing_costs pairs none = record {
  steps = λ r le. either_same (nat_lt 0 r) 0 ∙ sym (ap (λ steps. length steps) (no_steps pairs (free_from pairs r 0) (empty (moving pairs) none)));
  few = nothing_few;
}

-- one register that moves takes one step

unlike : (a b : ℕ) → a ≢ b → (a == b) ≡ false
unlike a b ne = grind (arith, nat_tests)

single_by : (free : Option PReg) (n : ℕ) (p : Pair) → ((p.0).0 == (p.1).0) ≡ false → length (steps_from free (suc n) (p ∷ [])) ≡ 1
single_by free n p moves =
    let first : first_free (p ∷ []) (p ∷ []) ≡ Some p = ap (λ b. if (if b then true else false) then None else Some p) moves in
    let gone : without (p.1).0 (p ∷ []) ≡ [] = ap (λ b. if not b then p ∷ [] else []) (eq-eqb (p.1).0 (p.1).0 refl) in
    ap (λ o. length ((turn_at free (p ∷ []) o).steps ++ steps_from free n (turn_at free (p ∷ []) o).left)) first
    ∙ ap (λ left. length (Mov p.1 p.0 ∷ steps_from free n left)) gone
    ∙ ap (λ ss. suc (length ss)) (none_left free n)

single_step : (free : Option PReg) (n : ℕ) (left : List Pair) → length left ≡ 1 → 1 ≤ n → NoneStay left → length (steps_from free n left) ≡ 1
single_step free n [] one le stay = absurd (omega arith)
single_step free zero (p ∷ rest) one le stay = absurd (omega arith)
single_step free (suc n) (p ∷ []) one le stay = single_by free n p (unlike (p.0).0 (p.1).0 stay.0)
single_step free (suc n) (p ∷ q ∷ rest) one le stay = absurd (omega arith)

pub single_costs : (pairs : List Pair) → length (moving pairs) ≡ 1 → AreCostsOf pairs (record { unnamed = 0; with_free = 1; without = 1 })
single_costs pairs one = record {
  steps = λ r le. either_same (nat_lt 0 r) 1 ∙ sym (single_step (free_from pairs r 0) (length pairs) (moving pairs) one (let all = length-moving pairs in omega arith) (stay-moving pairs));
  few = record { with_free = omega arith; without = omega arith };
}

pub nothing_to : (code : List Line) (plan : Plan) (i : ℕ) → AreCostsTo code plan i None (record { unnamed = 0; with_free = 0; without = 0 })
nothing_to code plan i = record { steps = λ r le. either_same (nat_lt 0 r) 0; few = nothing_few }

-- a fall that takes no steps costs nothing
pub still_fall : (code : List Line) (plan : Plan) (i : ℕ) → ((r : ℕ) → fall_steps code (with_places plan r) i ≡ []) → AreCostsTo code plan i (next_at (slice_get code i) i).fall (record { unnamed = 0; with_free = 0; without = 0 })
still_fall code plan i none = record { steps = λ r le. either_same (nat_lt 0 r) 0 ∙ sym (ap (λ steps. length steps) (none r)); few = nothing_few }

pub few_most : (n : ℕ) → n ≤ MOST_FILE → most_steps n ≤ most_edge_steps
few_most n le = grind (arith, nat_tests)

-- by the least place that no pair names, and the costs with a free place and without
pub costs_are : (pairs : List Pair) (unnamed with_free without : ℕ) → unnamed ≡ place_or_end 255 (free_from pairs 255 0) → with_free ≤ most_edge_steps → without ≤ most_edge_steps
    → ((free : PReg) → IsFree pairs (Some free) → with_free ≡ length (move_steps pairs (Some free)))
    → without ≡ length (move_steps pairs None)
    → AreCostsOf pairs (record { unnamed = unnamed; with_free = with_free; without = without })
costs_are pairs unnamed with_free without is low_with low_without some none = record {
  steps = λ r le. by r (free_from pairs r 0) (free_is pairs r 0) (free_within pairs 255 r 0 255 r le refl (omega arith) ∙ ap (λ u. nat_lt u r) (sym is)) (nat_lt unnamed r) refl;
  few = record { with_free = low_with; without = low_without };
}
  where
    by : (r : ℕ) (o : Option PReg) → IsFree pairs o → is_some o ≡ nat_lt unnamed r → (b : Bool) → nat_lt unnamed r ≡ b → (if b then with_free else without) ≡ length (move_steps pairs o)
    by r (Some free) free_of same true e = some free free_of
    by r (Some free) free_of same false e = absurd (cc)
    by r None free_of same true e = absurd (cc)
    by r None free_of same false e = none

pub few_pairs : (f : ℕ → ℕ) (next : List Place) → length next ≤ MOST_FILE → length (pairs_from f next) ≤ MOST_FILE
few_pairs f next few = let long = length-map next (pair_from f) in omega arith

pub few_listed : (code : List Line) (plan : Plan) (j : ℕ) → IsValidPlan code plan → j < length code → length (row_at plan j).places ≤ MOST_FILE
few_listed code plan j valid there =
    let qs = (row_at plan j).places in
    let places = length-map qs (λ q. q.place) in
    let few = few_places qs plan.r (row_valid code plan valid j there).apart (listed_below code plan valid j there) in
    omega (arith, valid.few)

-- by a table of places, and the next row's places
pub costs_edge : (code : List Line) (plan : Plan) (i j : ℕ) (table : List ℕ) (next : List Place) (costs : EdgeCosts) → IsValidPlan code plan → IsClosedCode code → AreAfter code plan i table → Edge code i j
    → next ≡ (row_at plan j).places → AreCostsOf (pairs_from (λ k. slice_index table k) next) costs → AreCostsTo code plan i (Some j) costs
costs_edge code plan i j table next costs valid closed after edge is are =
    let same = ap (pairs_from (λ k. slice_index table k)) is ∙ same_pairs code plan i j table valid closed after edge in record {
      steps = λ r le. are.steps r le ∙ ap (λ ps. length (move_steps ps (free_from ps r 0))) same;
      few = are.few;
    }

with_few : (fall jump : EdgeCosts) (r : ℕ) → AreFew fall → AreFew jump → (b c : Bool) → (if b then fall.with_free else fall.without) + size_of_block (if c then jump.with_free else jump.without) ≤ most_line_glue
with_few fall jump r f g b c =
    let one : (if b then fall.with_free else fall.without) ≤ most_edge_steps = either b fall f in
    let two : (if c then jump.with_free else jump.without) ≤ most_edge_steps = either c jump g in
    let three = block_few (if c then jump.with_free else jump.without) in
    omega arith
  where
    either : (b : Bool) (costs : EdgeCosts) → AreFew costs → (if b then costs.with_free else costs.without) ≤ most_edge_steps
    either true costs few = few.with_free
    either false costs few = few.without

    block_few : (n : ℕ) → size_of_block n ≤ n + 1
    block_few zero = omega arith
    block_few (suc n) = omega arith

pub glue_few : (fall jump : EdgeCosts) (r : ℕ) → AreFew fall → AreFew jump → glue_with fall jump r ≤ most_line_glue
glue_few fall jump r f g = with_few fall jump r f g (nat_lt fall.unnamed r) (nat_lt jump.unnamed r)

-- the glue words of an instruction
pub glue_is : (code : List Line) (plan : Plan) (i r : ℕ) (fall jump : EdgeCosts) → r ≤ 255 → AreCostsTo code plan i (next_at (slice_get code i) i).fall fall
    → AreCostsTo code plan i (next_at (slice_get code i) i).jump jump
    → glue_with fall jump r ≡ length (fall_steps code (with_places plan r) i) + block_size code (with_places plan r) i
glue_is code plan i r fall jump le f g =
    let one = f.steps r le in
    let two = block_of code (with_places plan r) i (steps_with jump r) (size_of_block (steps_with jump r)) (g.steps r le) refl in
    omega (arith, one, two)

-- an instruction whose edges take no steps adds nothing
pub none_added : (fall jump : EdgeCosts) (r : ℕ) → takes_nothing fall ≡ true → takes_nothing jump ≡ true → glue_with fall jump r ≡ 0
none_added fall jump r f j = λ a. none fall f a + size_of_block (none jump j a)
  where
    none : (costs : EdgeCosts) → takes_nothing costs ≡ true → steps_with costs r ≡ 0
    none costs e = grind (arith, nat_tests)
