-- Addresses, and how large they are.
use Rattle.std.proofs.Common.{◌≡◌, ℕ, ◌+◌, ◌*◌, ◌<◌, ◌≤◌, List, [], ◌∷◌, length, refl, ap, ◌∙◌, arith, add-one}
use Rattle.micro_isa.specs.declared.program.Line.{Line}
use Rattle.edge_moves.specs.declared.step.Step.{Step}
use Rattle.plan.specs.declared.row.Plan.{Plan}
use Rattle.plan.specs.ValidPlans.{IsValidPlan}
use Rattle.flow_graph.specs.Paths.{IsClosedCode}
use Rattle.emitted.specs.Edges.{fall_steps, jump_steps, most_edge_steps}
use Rattle.emitted.specs.Words.{piece_size, address, size_with_jump, block_size, block_address}
use Rattle.micro_isa.specs.Pieces.{total}
use Rattle.emit.specs.Addressed.{glue_before, size_of_block}
use Rattle.emit.specs.Limits.{most_line_glue}
use Rattle.emitted.proofs.FormedWords.{total_most, fall_below, jump_below}

pub next_start : (code : List Line) (plan : Plan) (i : ℕ) → address code plan (i + 1) ≡ address code plan i + (1 + length (fall_steps code plan i))
next_start code plan i = ap (address code plan) (add-one i)

-- an address is small
pub small_address : (code : List Line) (plan : Plan) → IsValidPlan code plan → IsClosedCode code → (i : ℕ) → i ≤ length code → address code plan i ≤ (most_edge_steps + 1) * i
small_address code plan valid closed i le =
    total_most (piece_size code plan) i (λ k lt. let few = (fall_below code plan plan.r (λ q. record { 0 = q }) (λ q n ql nl e. e) (λ q ql. ql) valid closed k (omega arith)).1 in omega arith)

with_jump : (ss : List Step) → length ss ≤ most_edge_steps → size_with_jump ss ≤ most_edge_steps + 1
with_jump [] h = omega arith
with_jump (s ∷ ss) h = omega arith

pub small_block : (code : List Line) (plan : Plan) → IsValidPlan code plan → IsClosedCode code → (i : ℕ) → i ≤ length code → block_address code plan i ≤ (most_edge_steps + 1) * length code + (most_edge_steps + 1) * i
small_block code plan valid closed i le =
    let front = small_address code plan valid closed (length code) (omega arith) in
    let back = total_most (block_size code plan) i (λ k lt. with_jump (jump_steps code plan k) (jump_below code plan plan.r (λ q. record { 0 = q }) (λ q n ql nl e. e) (λ q ql. ql) valid closed k (omega arith)).1) in
    omega arith

-- the glue words of one instruction are few
pub few_words : (code : List Line) (plan : Plan) → IsValidPlan code plan → IsClosedCode code → (i : ℕ) → i < length code
    → length (fall_steps code plan i) + block_size code plan i ≤ most_line_glue
few_words code plan valid closed i lt =
    let fall = (fall_below code plan plan.r (λ q. record { 0 = q }) (λ q n ql nl e. e) (λ q ql. ql) valid closed i lt).1 in
    let block = with_jump (jump_steps code plan i) (jump_below code plan plan.r (λ q. record { 0 = q }) (λ q n ql nl e. e) (λ q ql. ql) valid closed i lt).1 in
    omega arith

pub next_glue : (code : List Line) (plan : Plan) (i : ℕ) → glue_before code plan (i + 1) ≡ glue_before code plan i + (length (fall_steps code plan i) + block_size code plan i)
next_glue code plan i = ap (glue_before code plan) (add-one i)

pub next_blocks : (code : List Line) (plan : Plan) (i : ℕ) → total (block_size code plan) (i + 1) ≡ total (block_size code plan) i + block_size code plan i
next_blocks code plan i = ap (total (block_size code plan)) (add-one i)

jump_added : (ss : List Step) → size_of_block (length ss) ≡ size_with_jump ss
jump_added [] = refl
jump_added (s ∷ ss) = refl

pub block_of : (code : List Line) (plan : Plan) (i steps block : ℕ) → steps ≡ length (jump_steps code plan i) → block ≡ size_of_block steps → block ≡ block_size code plan i
block_of code plan i steps block is e = e ∙ ap size_of_block is ∙ jump_added (jump_steps code plan i)
