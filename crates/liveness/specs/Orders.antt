-- A depth-first visit with a stack.
use Rattle.std.specs.Prelude.{ℕ, ◌+◌, ◌*◌, Bool, cond, List, length}
use Rattle.std.specs.List.{sum_by}

-- how many instructions have no mark
abbrev pub unmarked : List Bool → ℕ
unmarked marks = sum_by (λ b. cond b 0 1) marks

-- rises with no turn: an instruction that is marked brings three turns at most
abbrev pub weight : {X : Type 0} → List Bool → List X → ℕ
weight marks stack = 4 * unmarked marks + length stack
