-- A flood with a stack, over the list of the instructions' successors.
use Rattle.std.specs.Prelude.{ℕ, ◌≡◌, ◌+◌, ◌*◌, ◌<◌, ◌⊎◌, ◌↔◌, Bool, true, false, cond, List, [], ◌∷◌, ◌++◌, Option, Some, None, length, slice_get, slice_index_or, slice_set}
use Rattle.std.specs.List.{Contains, sum_by}
use Rattle.micro_isa.specs.declared.instr.Next.{Next}
use Rattle.flow_graph.specs.Paths.{GoesTo, Walk}

-- the list has j as a successor of i
abbrev pub Step : List Next → ℕ → ℕ → Type 0
Step successors i j = (next : Next) × (slice_get successors i ≡ Some next) × GoesTo next j

-- steps lead from i to j
abbrev pub Arrives : List Next → ℕ → ℕ → Type 0
Arrives successors i j = (rest : List ℕ) × Walk (Step successors) i rest j

-- the marks stand where steps from 0 lead
pub record IsReached (successors : List Next) (marks : List Bool) : Type 0 where
  pub one_each : length marks ≡ length successors
  pub exact : (j : ℕ) → j < length successors → (slice_index_or marks j false ≡ true) ↔ Arrives successors 0 j

-- the marks after an instruction was marked
abbrev pub marked : List Bool → Option ℕ → List Bool
marked marks None = marks
marked marks (Some j) = slice_set marks j true

-- the stack after an instruction was marked
abbrev pub stacked : List Bool → List ℕ → Option ℕ → List ℕ
stacked marks stack None = stack
stacked marks stack (Some j) = cond (slice_index_or marks j false) stack (stack ++ j ∷ [])

-- steps lead to each mark, and each marked instruction but `spared` is on the stack or has its successors marked
pub record IsOpen (successors : List Next) (marks : List Bool) (stack : List ℕ) (spared : ℕ) : Type 0 where
  pub one_each : length marks ≡ length successors
  pub path : (j : ℕ) → slice_index_or marks j false ≡ true → Arrives successors 0 j
  pub held : (i : ℕ) → Contains stack i → (i < length successors) × (slice_index_or marks i false ≡ true)
  pub done : (i j : ℕ) → slice_index_or marks i false ≡ true → Step successors i j
      → (i ≡ spared) ⊎ (Contains stack i ⊎ (slice_index_or marks j false ≡ true))

-- falls with each pop, and rises with no mark
abbrev pub weight : List Bool → List ℕ → ℕ
weight marks stack = 2 * sum_by (λ b. cond b 0 1) marks + length stack
