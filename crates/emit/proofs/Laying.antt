-- What the code of a whole context asks for.
use Rattle.std.proofs.Common.{◌≡◌, ℕ, suc, ◌+◌, ◌<◌, ◌≤◌, List, [], ◌∷◌, ◌++◌, length, Option, Some, None, Bool, true, false, refl, sym, ap, ◌∙◌, arith, append_assoc, add-one}
use Rattle.std.specs.Prelude.{slice_get, slice_index, option_map, ◌==◌, if◌then◌else◌}
use Rattle.std.proofs.lemmas.Option.{get_or_from_slice_get}
use Rattle.micro_isa.specs.declared.limits.TheConstants.{MOST_FILE}
use Rattle.micro_isa.specs.declared.instr.Instr.{Instr}
use Rattle.micro_isa.specs.declared.program.Line.{Line}
use Rattle.micro_isa.specs.declared.image.PReg.{PReg}
use Rattle.micro_isa.specs.declared.image.Word.{Word}
use Rattle.micro_isa.specs.declared.operation.Operation.{Operation}
use Rattle.micro_isa.specs.declared.operands.Operands.{Operands}
use Rattle.micro_isa.specs.declared.operands.Extra.{Extra}
use Rattle.micro_isa.specs.declared.operands.Extra.TheVariants as extra
use Rattle.micro_isa.specs.Columns.{target_in, next_of}
use Rattle.micro_isa.specs.Operands.{operation_of, operands_of, instr_of, with, renamed, retargeted, or_halt}
use Rattle.micro_isa.proofs.Laws.{reworded, jumps_to}
use Rattle.flow_graph.specs.Paths.{IsClosedCode}
use Rattle.edge_moves.specs.declared.step.Step.{Step}
use Rattle.edge_moves.specs.declared.step.Step.TheVariants as step
use Rattle.edge_moves.specs.Within.{StepWithin, StepsWithin}
use Rattle.plan.specs.declared.row.Place.{Place}
use Rattle.plan.specs.declared.row.Plan.{Plan}
use Rattle.plan.specs.ValidPlans.{place_in, IsValidPlan}
use Rattle.micro_isa.specs.Pieces.{pieces}
use Rattle.emitted.specs.Edges.{most_edge_steps, row_at, place_or_zero, next_at, edge_steps, steps_to, fall_steps, jump_steps}
use Rattle.emitted.specs.Words.{reword, address, block_address, target_for, target_from, word_for, word_at, block_words, block_to, block_at}
use Rattle.emitted.proofs.Rows.{row_valid, listed_below}
use Rattle.emitted.proofs.Implementing.{single_at}
use Rattle.emitted.proofs.FormedWords.{fall_below, jump_below}
use Rattle.emit.specs.Addressed.{firsts}

-- steps and places of a valid plan are small

step_less : (r : ℕ) → r ≤ MOST_FILE → (s : Step) → StepWithin r s → StepWithin MOST_FILE s
step_less r few (step.Mov to from) h = let a = h.0 in let b = h.1 in (omega arith, omega arith)
step_less r few (step.Xor to with) h = let a = h.0 in let b = h.1 in (omega arith, omega arith)

steps_less : (r : ℕ) → r ≤ MOST_FILE → (ss : List Step) → StepsWithin r ss → StepsWithin MOST_FILE ss
steps_less r few [] h = tt
steps_less r few (s ∷ ss) h = (step_less r few s h.0, steps_less r few ss h.1)

pub fall_small : (code : List Line) (plan : Plan) (i : ℕ) → IsValidPlan code plan → IsClosedCode code → i < length code → StepsWithin MOST_FILE (fall_steps code plan i) × (length (fall_steps code plan i) ≤ most_edge_steps)
fall_small code plan i valid closed lt =
    let k = fall_below code plan plan.r (λ q. record { 0 = q }) (λ q n ql nl e. e) (λ q ql. ql) valid closed i lt in
    (steps_less plan.r valid.few (fall_steps code plan i) k.0, k.1)

pub jump_small : (code : List Line) (plan : Plan) (i : ℕ) → IsValidPlan code plan → IsClosedCode code → i < length code → StepsWithin MOST_FILE (jump_steps code plan i) × (length (jump_steps code plan i) ≤ most_edge_steps)
jump_small code plan i valid closed lt =
    let k = jump_below code plan plan.r (λ q. record { 0 = q }) (λ q n ql nl e. e) (λ q ql. ql) valid closed i lt in
    (steps_less plan.r valid.few (jump_steps code plan i) k.0, k.1)

small_in : (qs : List Place) (r : ℕ) → r ≤ MOST_FILE → ((a : ℕ) (q : Place) → slice_get qs a ≡ Some q → q.place < r) → (k : ℕ) → place_in qs k < MOST_FILE
small_in [] r few h k = omega arith
small_in (q ∷ qs) r few h k = by (small_in qs r few (λ a x e. h (suc a) x e) k) (q.register.0 == k)
  where
    by : place_in qs k < MOST_FILE → (b : Bool) → (if b then q.place else place_in qs k) < MOST_FILE
    by rest true = let first = h 0 q refl in omega arith
    by rest false = rest

pub places_small : (code : List Line) (plan : Plan) (i : ℕ) → IsValidPlan code plan → i < length code → (k : ℕ) → place_in (row_at plan i).places k < MOST_FILE
places_small code plan i valid lt = small_in (row_at plan i).places plan.r valid.few (listed_below code plan valid i lt)

pub write_small : (code : List Line) (plan : Plan) (i : ℕ) → IsValidPlan code plan → i < length code → place_or_zero (row_at plan i).write < MOST_FILE
write_small code plan i valid lt = by (row_at plan i).write refl
  where
    by : (o : Option ℕ) → (row_at plan i).write ≡ o → place_or_zero o < MOST_FILE
    by None e = omega arith
    by (Some w) e = let below = (row_valid code plan valid i lt).write_in_range w e in let few = valid.few in omega arith

-- addresses in the list

pub first_at : (f : ℕ → ℕ) (n j : ℕ) → j < n → slice_index (firsts f n) j ≡ f j
first_at f n j lt = get_or_from_slice_get (firsts f n) j (f j) 0 (single_at f n j lt)

-- where i jumps to
pub goto_is : (code : List Line) (plan : Plan) (i start : ℕ) → ((j : ℕ) → (next_at (slice_get code i) i).jump ≡ Some j → start ≡ address code plan j) → (j : ℕ) → (next_at (slice_get code i) i).jump ≡ Some j → target_for (jump_steps code plan i) (block_address code plan i) start ≡ target_from code plan i j
goto_is code plan i start h j e =
    (λ a. target_for (steps a) (block_address code plan i) (h j e a))
  where
    steps : jump_steps code plan i ≡ edge_steps code plan i j
    steps = ap (λ o. steps_to code plan i o) e

-- the word of an instruction, where its target is known

same_target : (t : ℕ → ℕ) (goto : ℕ) (e : Extra ℕ ℕ) → ((j : ℕ) → target_in e ≡ Some j → goto ≡ t j) → retargeted (λ j. goto) e ≡ retargeted t e
same_target t goto (extra.Target target) h = ap (λ n. extra.Target n) (h target refl)
same_target t goto _ h = refl

same_goto : {R S : Type 0} (f : R → S) (g : S) (t : ℕ → ℕ) (goto i : ℕ) (o : Instr R) → ((j : ℕ) → (next_of o i).jump ≡ Some j → goto ≡ t j) → reword f g (λ j. goto) o ≡ reword f g t o
same_goto f g t goto i o h =
    let x = operands_of o in
    ap (λ (e : Extra ℕ ℕ). or_halt (instr_of (operation_of o) (with (option_map (λ r. g) x.to) (option_map f x.a) (option_map f x.b) e))) (same_target t goto x.extra (λ j e. h j (jumps_to o i ∙ e)))

-- what is made of an instruction's operation and its renamed operands
pub made_anew : {R S : Type 0} (f : R → S) (g : S) (t : ℕ → ℕ) (i : Instr R) (o : Operation) (x : Operands R ℕ ℕ) (y : Operands S ℕ ℕ) → o ≡ operation_of i → x ≡ operands_of i → y ≡ renamed f g t x → instr_of o y ≡ Some (reword f g t i)
made_anew f g t i o x y eo ex ey =
    (λ k. instr_of (eo k) (ey k)) ∙ ap (λ (z : Operands _ ℕ ℕ). instr_of (operation_of i) (renamed f g t z)) ex ∙ (reworded f g t i).made

pub word_is : (code : List Line) (plan : Plan) (reg : ℕ → PReg) (i goto : ℕ) (l : Line) → slice_get code i ≡ Some l → ((j : ℕ) → (next_at (slice_get code i) i).jump ≡ Some j → goto ≡ target_from code plan i j) → (w : Word) → w ≡ record { instr = reword (λ v. reg (place_in (row_at plan i).places v.0)) (reg (place_or_zero (row_at plan i).write)) (λ j. goto) l.instr; counted = true; line = l.line } → w ≡ word_at code plan reg i
word_is code plan reg i goto l is h w e =
    e ∙ (λ k. record { instr = same_goto (λ v. reg (place_in (row_at plan i).places v.0)) (reg (place_or_zero (row_at plan i).write)) (target_from code plan i) goto i l.instr (λ j n. h j (ap (λ o. (next_at o i).jump) is ∙ n)) k; counted = true; line = l.line })
    ∙ ap (word_for code plan reg i) (sym is)

pub block_is : (code : List Line) (plan : Plan) (reg : ℕ → PReg) (i start : ℕ) → ((j : ℕ) → (next_at (slice_get code i) i).jump ≡ Some j → start ≡ address code plan j) → block_words reg (jump_steps code plan i) start ≡ block_at code plan reg i
block_is code plan reg i start h = by (next_at (slice_get code i) i).jump h
  where
    by : (o : Option ℕ) → ((j : ℕ) → o ≡ Some j → start ≡ address code plan j) → block_words reg (steps_to code plan i o) start ≡ block_to code plan reg i o
    by None k = refl
    by (Some j) k = ap (block_words reg (edge_steps code plan i j)) (k j refl)

pub next_piece : {A : Type 0} (f : ℕ → List A) (n : ℕ) (ws ws' : List A) → ws ≡ pieces f n → ws' ≡ ws ++ f n → ws' ≡ pieces f (n + 1)
next_piece f n ws ws' e h = h ∙ ap (λ k. k ++ f n) e ∙ ap (pieces f) (sym (add-one n))

pub next_behind : {A : Type 0} (front : List A) (f : ℕ → List A) (n : ℕ) (ws ws' : List A) → ws ≡ front ++ pieces f n → ws' ≡ ws ++ f n → ws' ≡ front ++ pieces f (n + 1)
next_behind front f n ws ws' e h =
    h ∙ ap (λ k. k ++ f n) e ∙ append_assoc front (pieces f n) (f n) ∙ ap (λ k. front ++ pieces f k) (sym (add-one n))
