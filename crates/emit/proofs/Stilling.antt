-- The words of a plan without glue.
use Rattle.std.proofs.Common.{◌≡◌, ℕ, zero, suc, ◌+◌, ◌<◌, ◌≤◌, List, [], ◌∷◌, ◌++◌, length, Some, refl, sym, ap, ◌∙◌, inl, inr, arith}
use Rattle.std.specs.Prelude.{slice_get}
use Rattle.std.proofs.lemmas.Bool.{cases_order}
use Rattle.micro_isa.specs.declared.program.Line.{Line}
use Rattle.micro_isa.specs.declared.program.Bundle.{Bundle}
use Rattle.micro_isa.specs.declared.image.PReg.{PReg}
use Rattle.micro_isa.specs.declared.image.Word.{Word}
use Rattle.micro_isa.specs.Pieces.{pieces, total}
use Rattle.micro_isa.proofs.Pieced.{append_nil}
use Rattle.semantics.specs.Source.{code_of}
use Rattle.flow_graph.specs.Paths.{IsClosedCode}
use Rattle.edge_moves.specs.declared.step.Step.{Step}
use Rattle.plan.specs.declared.row.Plan.{Plan}
use Rattle.emitted.specs.Edges.{next_at, edge_steps, steps_to, fall_steps, jump_steps}
use Rattle.emitted.specs.Words.{address, size_with_jump, block_size, block_address, target_for, target_from, word_at, piece_at, block_at, words_of_plan, glue_of}
use Rattle.emitted.specs.Emitted.{plan_at}
use Rattle.emit.specs.Blocks.{has_steps}
use Rattle.emit.specs.Totals.{glue_of_plans}
use Rattle.emit.proofs.Addressing.{piece_none, block_none}
use Rattle.emit.proofs.Edging.{jump_edge}

-- the terms of a sum that is 0
terms_none : (f : ℕ → ℕ) (n : ℕ) → total f n ≡ 0 → (i : ℕ) → i < n → f i ≡ 0
terms_none f zero e i lt = absurd (omega arith)
terms_none f (suc n) e i lt = elim (cases_order i n) [
  | inl same ↦ let last : f n ≡ 0 = omega arith in ap f same ∙ last
  | inr o ↦ elim o [ inl below ↦ terms_none f n (omega arith) i below | inr above ↦ absurd (omega arith) ]
]

-- a context of plans that have no glue has none
pub still_context : (b : Bundle) (plans : List Plan) (c : ℕ) → glue_of_plans b plans ≡ 0 → c < length b.programs → glue_of (code_of b c) (plan_at plans c) ≡ 0
still_context b plans c e lt = terms_none (λ k. glue_of (code_of b k) (plan_at plans k)) (length b.programs) e c lt

no_fall : (code : List Line) (plan : Plan) (i : ℕ) → glue_of code plan ≡ 0 → i < length code → fall_steps code plan i ≡ []
no_fall code plan i e lt =
    let none : length (fall_steps code plan i) + block_size code plan i ≡ 0 = terms_none (λ k. length (fall_steps code plan k) + block_size code plan k) (length code) e i lt in
    by (fall_steps code plan i) (omega arith)
  where
    by : (ss : List Step) → length ss ≡ 0 → ss ≡ []
    by [] h = refl
    by (s ∷ ss) h = absurd (omega arith)

no_jump : (code : List Line) (plan : Plan) (i : ℕ) → glue_of code plan ≡ 0 → i < length code → jump_steps code plan i ≡ []
no_jump code plan i e lt =
    let none : length (fall_steps code plan i) + block_size code plan i ≡ 0 = terms_none (λ k. length (fall_steps code plan k) + block_size code plan k) (length code) e i lt in
    by (jump_steps code plan i) (omega arith)
  where
    by : (ss : List Step) → size_with_jump ss ≡ 0 → ss ≡ []
    by [] h = refl
    by (s ∷ ss) h = absurd (omega arith)

-- each word stands at the number of its instruction
still_address : (code : List Line) (plan : Plan) → glue_of code plan ≡ 0 → (i : ℕ) → i ≤ length code → address code plan i ≡ i
still_address code plan e zero le = refl
still_address code plan e (suc i) le =
    let rest = still_address code plan e i (omega arith) in
    let none = ap (λ ss. length ss) (no_fall code plan i e (omega arith)) in
    omega arith

-- each jump goes to the word of its target
pub still_goto : (code : List Line) (plan : Plan) (i goto : ℕ) → IsClosedCode code → glue_of code plan ≡ 0 → i < length code → ((j : ℕ) → (next_at (slice_get code i) i).jump ≡ Some j → goto ≡ j)
    → (j : ℕ) → (next_at (slice_get code i) i).jump ≡ Some j → goto ≡ target_from code plan i j
still_goto code plan i goto closed e lt is j jump =
    let there = closed.closed i j (jump_edge code i j jump) in
    let none : edge_steps code plan i j ≡ [] = sym (ap (λ o. steps_to code plan i o) jump) ∙ no_jump code plan i e lt in
    is j jump ∙ sym (still_address code plan e j (omega arith)) ∙ sym (ap (λ ss. target_for ss (block_address code plan i) (address code plan j)) none)

same_pieces : {A : Type 0} (f g : ℕ → List A) (n : ℕ) → ((i : ℕ) → i < n → f i ≡ g i) → pieces f n ≡ pieces g n
same_pieces f g zero h = refl
same_pieces f g (suc n) h = λ k. same_pieces f g n (λ i lt. h i (omega arith)) k ++ h n (omega arith) k

no_pieces : {A : Type 0} (f : ℕ → List A) (n : ℕ) → ((i : ℕ) → i < n → f i ≡ []) → pieces f n ≡ []
no_pieces f zero h = refl
no_pieces f (suc n) h = λ k. no_pieces f n (λ i lt. h i (omega arith)) k ++ h n (omega arith) k

-- the words of all instructions are all words
pub still_is : (code : List Line) (plan : Plan) (reg : ℕ → PReg) (words : List Word) → glue_of code plan ≡ 0 → words ≡ pieces (λ i. word_at code plan reg i ∷ []) (length code) → words ≡ words_of_plan code plan reg
still_is code plan reg words e is =
    let front = same_pieces (λ i. word_at code plan reg i ∷ []) (piece_at code plan reg) (length code) (λ i lt. sym (piece_none code plan reg i (ap has_steps (no_fall code plan i e lt)))) in
    let back = no_pieces (block_at code plan reg) (length code) (λ i lt. block_none code plan reg i (ap has_steps (no_jump code plan i e lt))) in
    is ∙ sym (append_nil (pieces (λ i. word_at code plan reg i ∷ []) (length code))) ∙ (λ k. front k ++ sym back k)
