-- Where the words and the blocks of instructions begin.
use Rattle.std.specs.Prelude.{ℕ, zero, suc, ◌≡◌, ◌+◌, List, [], ◌∷◌, length}
use Rattle.micro_isa.specs.declared.program.Line.{Line}
use Rattle.micro_isa.specs.Pieces.{pieces, total}
use Rattle.plan.specs.declared.row.Plan.{Plan}
use Rattle.emitted.specs.Edges.{fall_steps}
use Rattle.emitted.specs.Words.{address, block_size}
use Rattle.emit.specs.declared.starts.Addresses.{Addresses}

-- the first n numbers
abbrev pub firsts : (ℕ → ℕ) → ℕ → List ℕ
firsts f n = pieces (λ k. f k ∷ []) n

-- how many words a block with so many steps has
abbrev pub size_of_block : ℕ → ℕ
size_of_block zero = 0
size_of_block (suc n) = suc n + 1

-- where the word of each instruction stands, and then where the blocks begin; where each block stands among the blocks,
-- and how many words all of them have
pub record AreAddresses (code : List Line) (plan : Plan) (addresses : Addresses) : Type 0 where
  pub starts : addresses.starts ≡ firsts (address code plan) (length code + 1)
  pub blocks : addresses.blocks ≡ firsts (total (block_size code plan)) (length code + 1)

-- the glue words of the instructions before the n-th
abbrev pub glue_before : List Line → Plan → ℕ → ℕ
glue_before code plan n = total (λ i. length (fall_steps code plan i) + block_size code plan i) n
