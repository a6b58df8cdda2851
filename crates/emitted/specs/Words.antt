-- The words of one context: counted words with the steps of the edges that fall through, then blocks for the jumps that
-- need steps.
use Rattle.std.specs.Prelude.{ℕ, ◌+◌, List, [], ◌∷◌, ◌++◌, map, length, Option, Some, None, true, false, slice_get}
use Rattle.micro_isa.specs.declared.arithmetic.AluOp.TheVariants as op
use Rattle.micro_isa.specs.declared.instr.Instr.TheVariants.{Mov, Alu, Jmp}
use Rattle.micro_isa.specs.declared.program.Line.{Line}
use Rattle.micro_isa.specs.declared.image.PReg.{PReg}
use Rattle.micro_isa.specs.declared.image.Word.{Word}
use Rattle.edge_moves.specs.declared.step.Step.{Step}
use Rattle.edge_moves.specs.declared.step.Step.TheVariants as step
use Rattle.plan.specs.declared.row.Plan.{Plan}
use Rattle.plan.specs.ValidPlans.{place_in}
pub use Rattle.micro_isa.specs.Operands.{reword}
use Rattle.micro_isa.specs.Pieces.{pieces, total}
use Rattle.emitted.specs.Edges.{row_at, place_or_zero, next_at, edge_steps, fall_steps, jump_steps}

-- words that are not counted: a step over places, where reg says which register a place is, and a jump
abbrev pub step_word : (ℕ → PReg) → Step → Word
step_word reg (step.Mov to from) = record { instr = Mov (reg to.0) (reg from.0); counted = false; line = 0 }
step_word reg (step.Xor to with) = record { instr = Alu op.Xor (reg to.0) (reg to.0) (reg with.0); counted = false; line = 0 }

abbrev pub jump_word : ℕ → Word
jump_word target = record { instr = Jmp target; counted = false; line = 0 }

-- how many words instruction i has in order: its own, and the steps where it falls through
abbrev pub piece_size : List Line → Plan → ℕ → ℕ
piece_size code plan i = 1 + length (fall_steps code plan i)

-- where the word of instruction i stands
abbrev pub address : List Line → Plan → ℕ → ℕ
address code plan i = total (piece_size code plan) i

-- how many words a block has: its steps and a jump; none where there are no steps
abbrev pub size_with_jump : List Step → ℕ
size_with_jump [] = 0
size_with_jump (s ∷ ss) = length (s ∷ ss) + 1

-- how many words the block of instruction i has
abbrev pub block_size : List Line → Plan → ℕ → ℕ
block_size code plan i = size_with_jump (jump_steps code plan i)

-- where the block of instruction i stands: the blocks lie behind the words of all instructions
abbrev pub block_address : List Line → Plan → ℕ → ℕ
block_address code plan i = address code plan (length code) + total (block_size code plan) i

-- the block, where the edge has steps, and else the plain address
abbrev pub target_for : List Step → ℕ → ℕ → ℕ
target_for [] block plain = plain
target_for (s ∷ ss) block plain = block

-- where the word of i jumps to for instruction j
abbrev pub target_from : List Line → Plan → ℕ → ℕ → ℕ
target_from code plan i j = target_for (edge_steps code plan i j) (block_address code plan i) (address code plan j)

-- the word of a line: it reads from the row's places, writes to the write's place, and is counted
abbrev pub word_for : List Line → Plan → (ℕ → PReg) → ℕ → Option Line → Word
word_for code plan reg i None = jump_word 0
word_for code plan reg i (Some l) = record {
  instr = reword (λ v. reg (place_in (row_at plan i).places v.0)) (reg (place_or_zero (row_at plan i).write)) (target_from code plan i) l.instr;
  counted = true;
  line = l.line;
}

-- the word of instruction i
abbrev pub word_at : List Line → Plan → (ℕ → PReg) → ℕ → Word
word_at code plan reg i = word_for code plan reg i (slice_get code i)

-- the steps where i falls through
abbrev pub falls_at : List Line → Plan → (ℕ → PReg) → ℕ → List Word
falls_at code plan reg i = map (step_word reg) (fall_steps code plan i)

-- all words of i in order
abbrev pub piece_at : List Line → Plan → (ℕ → PReg) → ℕ → List Word
piece_at code plan reg i = word_at code plan reg i ∷ falls_at code plan reg i

-- the words of a block: its steps, and a jump to the target
abbrev pub block_words : (ℕ → PReg) → List Step → ℕ → List Word
block_words reg [] target = []
block_words reg (s ∷ ss) target = map (step_word reg) (s ∷ ss) ++ jump_word target ∷ []

-- the block of i for its jump, if it jumps
abbrev pub block_to : List Line → Plan → (ℕ → PReg) → ℕ → Option ℕ → List Word
block_to code plan reg i None = []
block_to code plan reg i (Some j) = block_words reg (edge_steps code plan i j) (address code plan j)

-- the block of instruction i
abbrev pub block_at : List Line → Plan → (ℕ → PReg) → ℕ → List Word
block_at code plan reg i = block_to code plan reg i (next_at (slice_get code i) i).jump

-- all words of a context
abbrev pub words_of_plan : List Line → Plan → (ℕ → PReg) → List Word
words_of_plan code plan reg = pieces (piece_at code plan reg) (length code) ++ pieces (block_at code plan reg) (length code)

-- the words that are not counted
abbrev pub glue_of : List Line → Plan → ℕ
glue_of code plan = total (λ i. length (fall_steps code plan i) + block_size code plan i) (length code)
