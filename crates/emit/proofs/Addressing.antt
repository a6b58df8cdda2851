-- Addresses as the code has them.
use Rattle.std.proofs.Common.{◌≡◌, ℕ, ◌+◌, ◌^◌, ◌<◌, ◌≤◌, List, [], ◌∷◌, ◌++◌, length, map, Option, Some, None, true, false, refl, sym, ap, ◌∙◌, subst, arith}
use Rattle.std.specs.Prelude.{slice_get, slice_index, nat_lt}
use Rattle.std.proofs.lemmas.Bool.{lt-ltb, le-ltb}
use Rattle.std.proofs.lemmas.Option.{same_Some}
use Rattle.micro_isa.specs.declared.program.Line.{Line}
use Rattle.micro_isa.specs.declared.image.PReg.{PReg}
use Rattle.micro_isa.specs.Pieces.{total}
use Rattle.flow_graph.specs.Paths.{IsClosedCode}
use Rattle.edge_moves.specs.declared.step.Step.{Step}
use Rattle.plan.specs.declared.row.Plan.{Plan}
use Rattle.plan.specs.ValidPlans.{IsValidPlan}
use Rattle.emitted.specs.Edges.{next_at, edge_steps, steps_to, fall_steps, jump_steps}
use Rattle.emitted.specs.Words.{step_word, jump_word, address, size_with_jump, block_size, block_address, target_for, target_from, word_at, piece_at, block_words, block_to, block_at}
use Rattle.emit.specs.declared.starts.Addresses.{Addresses}
use Rattle.emit.specs.Addressed.{AreAddresses}
use Rattle.emit.specs.Blocks.{has_steps}
use Rattle.emit.proofs.Sizing.{small_address, small_block, next_start, next_blocks}
use Rattle.emit.proofs.Laying.{first_at}
use Rattle.emit.proofs.Edging.{jump_edge}

pub start_is : (code : List Line) (plan : Plan) (a : Addresses) (j : ℕ) → AreAddresses code plan a → j ≤ length code → slice_index a.starts j ≡ address code plan j
start_is code plan a j are le = ap (λ ns. slice_index ns j) are.starts ∙ first_at (address code plan) (length code + 1) j (omega arith)

pub block_is_at : (code : List Line) (plan : Plan) (a : Addresses) (j : ℕ) → AreAddresses code plan a → j ≤ length code → slice_index a.blocks j ≡ total (block_size code plan) j
block_is_at code plan a j are le = ap (λ ns. slice_index ns j) are.blocks ∙ first_at (total (block_size code plan)) (length code + 1) j (omega arith)

-- a block's address is small
pub block_fits : (code : List Line) (plan : Plan) (j : ℕ) → IsClosedCode code → IsValidPlan code plan → j ≤ length code → block_address code plan j < 2 ^ 32
block_fits code plan j closed valid le =
    let few = closed.few in
    let small = small_block code plan valid closed j le in
    omega arith

-- an address is small
pub start_fits : (code : List Line) (plan : Plan) (j : ℕ) → IsClosedCode code → IsValidPlan code plan → j ≤ length code → address code plan j + 1 < 2 ^ 32
start_fits code plan j closed valid le =
    let few = closed.few in
    let small = small_address code plan valid closed j le in
    omega arith

rises : (ss : List Step) (n : ℕ) → nat_lt n (n + size_with_jump ss) ≡ has_steps ss
rises [] n = le-ltb n (n + 0) (omega arith)
rises (s ∷ ss) n = lt-ltb n (n + (length (s ∷ ss) + 1)) (omega arith)

pub block_rises : (code : List Line) (plan : Plan) (a : Addresses) (i : ℕ) → AreAddresses code plan a → i < length code
    → nat_lt (slice_index a.blocks i) (slice_index a.blocks (i + 1)) ≡ has_steps (jump_steps code plan i)
block_rises code plan a i are lt =
    let here = block_is_at code plan a i are (omega arith) in
    let next = block_is_at code plan a (i + 1) are (omega arith) ∙ next_blocks code plan i in
    (λ k. nat_lt (here k) (next k)) ∙ rises (jump_steps code plan i) (total (block_size code plan) i)

rises_more : (ss : List Step) (n : ℕ) → nat_lt (n + 1) (n + (1 + length ss)) ≡ has_steps ss
rises_more [] n = le-ltb (n + 1) (n + (1 + 0)) (omega arith)
rises_more (s ∷ ss) n = lt-ltb (n + 1) (n + (1 + length (s ∷ ss))) (omega arith)

pub start_rises : (code : List Line) (plan : Plan) (a : Addresses) (i : ℕ) → AreAddresses code plan a → i < length code
    → nat_lt (slice_index a.starts i + 1) (slice_index a.starts (i + 1)) ≡ has_steps (fall_steps code plan i)
start_rises code plan a i are lt =
    let here = start_is code plan a i are (omega arith) in
    let next = start_is code plan a (i + 1) are (omega arith) ∙ next_start code plan i in
    (λ k. nat_lt (here k + 1) (next k)) ∙ rises_more (fall_steps code plan i) (address code plan i)

with_block : (ss : List Step) (block plain : ℕ) → has_steps ss ≡ true → target_for ss block plain ≡ block
with_block [] block plain e = absurd (cc)
with_block (s ∷ ss) block plain e = refl

without_block : (ss : List Step) (block plain : ℕ) → has_steps ss ≡ false → target_for ss block plain ≡ plain
without_block [] block plain e = refl
without_block (s ∷ ss) block plain e = absurd (cc)

steps_are : (code : List Line) (plan : Plan) (i j : ℕ) → (next_at (slice_get code i) i).jump ≡ Some j → jump_steps code plan i ≡ edge_steps code plan i j
steps_are code plan i j e = ap (λ o. steps_to code plan i o) e

-- where instruction i jumps to, with a block and without
pub goto_block : (code : List Line) (plan : Plan) (i j goto : ℕ) → (next_at (slice_get code i) i).jump ≡ Some j → has_steps (jump_steps code plan i) ≡ true → goto ≡ block_address code plan i → goto ≡ target_from code plan i j
goto_block code plan i j goto e has is =
    is ∙ sym (with_block (edge_steps code plan i j) (block_address code plan i) (address code plan j) (subst (λ ss. has_steps ss ≡ true) (steps_are code plan i j e) has))

pub goto_plain : (code : List Line) (plan : Plan) (i j goto : ℕ) → (next_at (slice_get code i) i).jump ≡ Some j → has_steps (jump_steps code plan i) ≡ false → goto ≡ address code plan j → goto ≡ target_from code plan i j
goto_plain code plan i j goto e has is =
    is ∙ sym (without_block (edge_steps code plan i j) (block_address code plan i) (address code plan j) (subst (λ ss. has_steps ss ≡ false) (steps_are code plan i j e) has))

no_words : (reg : ℕ → PReg) (ss : List Step) (target : ℕ) → has_steps ss ≡ false → block_words reg ss target ≡ []
no_words reg [] target e = refl
no_words reg (s ∷ ss) target e = absurd (cc)

some_words : (reg : ℕ → PReg) (ss : List Step) (target : ℕ) → has_steps ss ≡ true → map (step_word reg) ss ++ jump_word target ∷ [] ≡ block_words reg ss target
some_words reg [] target e = absurd (cc)
some_words reg (s ∷ ss) target e = refl

pub block_none : (code : List Line) (plan : Plan) (reg : ℕ → PReg) (i : ℕ) → has_steps (jump_steps code plan i) ≡ false → block_at code plan reg i ≡ []
block_none code plan reg i e = by (next_at (slice_get code i) i).jump e
  where
    by : (o : Option ℕ) → has_steps (steps_to code plan i o) ≡ false → block_to code plan reg i o ≡ []
    by None h = refl
    by (Some j) h = no_words reg (edge_steps code plan i j) (address code plan j) h

pub block_some : (code : List Line) (plan : Plan) (reg : ℕ → PReg) (i target : ℕ) → has_steps (jump_steps code plan i) ≡ true
    → ((j : ℕ) → (next_at (slice_get code i) i).jump ≡ Some j → target ≡ address code plan j)
    → map (step_word reg) (jump_steps code plan i) ++ jump_word target ∷ [] ≡ block_at code plan reg i
block_some code plan reg i target e is = by (next_at (slice_get code i) i).jump e is
  where
    by : (o : Option ℕ) → has_steps (steps_to code plan i o) ≡ true → ((j : ℕ) → o ≡ Some j → target ≡ address code plan j) → map (step_word reg) (steps_to code plan i o) ++ jump_word target ∷ [] ≡ block_to code plan reg i o
    by None h t = absurd (cc)
    by (Some j) h t = some_words reg (edge_steps code plan i j) target h ∙ ap (block_words reg (edge_steps code plan i j)) (t j refl)

-- the words of an instruction whose fall has no steps
pub piece_none : (code : List Line) (plan : Plan) (reg : ℕ → PReg) (i : ℕ) → has_steps (fall_steps code plan i) ≡ false → piece_at code plan reg i ≡ word_at code plan reg i ∷ []
piece_none code plan reg i e = by (fall_steps code plan i) e
  where
    by : (ss : List Step) → has_steps ss ≡ false → word_at code plan reg i ∷ map (step_word reg) ss ≡ word_at code plan reg i ∷ []
    by [] h = refl
    by (s ∷ ss) h = absurd (cc)

-- the word that instruction i jumps to
pub target_is : (code : List Line) (plan : Plan) (a : Addresses) (i j k : ℕ) → IsClosedCode code → AreAddresses code plan a → (next_at (slice_get code i) i).jump ≡ Some j → Some k ≡ Some j → slice_index a.starts k ≡ address code plan j
target_is code plan a i j k closed are e same =
    let lt = closed.closed i j (jump_edge code i j e) in
    ap (slice_index a.starts) (same_Some k j same) ∙ start_is code plan a j are (omega arith)
