-- What steps do to a register file, and what moves at once do.
use Rattle.std.specs.Prelude.{ℕ, ◌≡◌, ◌≢◌, List, [], ◌∷◌, Bool, true, false, Option, Some, None, slice_get, ◌==◌, if◌then◌else◌, bit_xor}
use Rattle.micro_isa.specs.declared.image.PReg.{PReg}
use Rattle.edge_moves.specs.declared.step.Step.{Step}
use Rattle.edge_moves.specs.declared.step.Step.TheVariants.{Mov, Xor}
use Rattle.edge_moves.specs.MoveSteps.{Pair, is_source}

-- a register file: what each register holds
abbrev pub File : Type 0
File = ℕ → ℕ

-- the file with this value in one register
abbrev pub set_at : File → ℕ → ℕ → File
set_at file to value q = if q == to then value else file q

-- the file after one step
abbrev pub do_step : Step → File → File
do_step (Mov to from) file = set_at file to.0 (file from.0)
do_step (Xor to with) file = set_at file to.0 (bit_xor (file to.0) (file with.0))

-- the file after the steps, done in order
abbrev pub do_steps : List Step → File → File
do_steps [] file = file
do_steps (s ∷ ss) file = do_steps ss (do_step s file)

-- the source of the pair with this target
abbrev pub source_to : List Pair → ℕ → Option ℕ
source_to [] q = None
source_to (p ∷ ps) q = if (p.1).0 == q then Some (p.0).0 else source_to ps q

-- what a register holds after moves at once
abbrev pub held_after : File → ℕ → Option ℕ → ℕ
held_after file q None = file q
held_after file q (Some s) = file s

-- the file after moves at once
abbrev pub moved : List Pair → File → File
moved ps file q = held_after file q (source_to ps q)

-- whether some pair has this target
abbrev pub is_target : List Pair → ℕ → Bool
is_target [] r = false
is_target (p ∷ ps) r = if (p.1).0 == r then true else is_target ps r

-- no two pairs have the same source, and no two the same target
abbrev pub AreDistinct : List Pair → Type 0
AreDistinct [] = Unit {0}
AreDistinct (p ∷ ps) = (is_source ps (p.0).0 ≡ false) × (is_target ps (p.1).0 ≡ false) × AreDistinct ps

-- the free register is no source and no target
abbrev pub IsFree : List Pair → Option PReg → Type 0
IsFree ps None = Unit {0}
IsFree ps (Some f) = (is_source ps f.0 ≡ false) × (is_target ps f.0 ≡ false)

-- a register that is not the free one
abbrev pub IsNot : Option PReg → ℕ → Type 0
IsNot None q = Unit {0}
IsNot (Some f) q = q ≢ f.0

-- done in order, the steps are the moves at once: each target holds what its source held, and every register that is
-- no target and not the free one holds what it held
pub record ParallelMove (pairs : List Pair) (free : Option PReg) (ss : List Step) : Type 0 where
  pub moves : (file : File) (i : ℕ) (p : Pair) → slice_get pairs i ≡ Some p → do_steps ss file (p.1).0 ≡ file (p.0).0
  pub others : (file : File) (q : ℕ) → is_target pairs q ≡ false → IsNot free q → do_steps ss file q ≡ file q
