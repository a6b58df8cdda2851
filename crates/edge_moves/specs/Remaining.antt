-- What remains to be moved between turns.
use Rattle.std.specs.Prelude.{ℕ, ◌≡◌, ◌≢◌, ◌<◌, List, [], ◌∷◌, ◌++◌, Bool, false, Option, Some, None, length, slice_get, slice_index_or}
use Rattle.micro_isa.specs.declared.image.PReg.{PReg}
use Rattle.edge_moves.specs.declared.step.Step.{Step}
use Rattle.edge_moves.specs.declared.step.Step.TheVariants.{Mov}
use Rattle.edge_moves.specs.MoveSteps.{Pair, is_source, first_free, without}
use Rattle.edge_moves.specs.ParallelMove.{is_target, AreDistinct}

-- no pair moves a register to itself
abbrev pub NoneStay : List Pair → Type 0
NoneStay [] = Unit {0}
NoneStay (p ∷ ps) = ((p.0).0 ≢ (p.1).0) × NoneStay ps

-- the free register is no target of what remains
abbrev pub IsNoTarget : Option PReg → List Pair → Type 0
IsNoTarget None left = Unit {0}
IsNoTarget (Some f) left = is_target left f.0 ≡ false

-- what remains is in order
pub record Remains (free : Option PReg) (left : List Pair) : Type 0 where
  pub distinct : AreDistinct left
  pub stay : NoneStay left
  pub kept : IsNoTarget free left

-- the set has exactly the sources of these pairs
pub record AreSources (left : List Pair) (set : List Bool) : Type 0 where
  pub exact : (q : ℕ) → slice_index_or set q false ≡ is_source left q

-- the place of the first pair whose target is no source
abbrev pub IsFirstAt : List Pair → Option ℕ → Type 0
IsFirstAt left None = first_free left left ≡ None
IsFirstAt left (Some i) = (i < length left) × (first_free left left ≡ slice_get left i)

-- the pair at place i was moved: it remains no more, and its step was added
pub record IsMovedAt (left : List Pair) (i : ℕ) (rest : List Pair) (before after : List Step) : Type 0 where
  pub each : (p : Pair) → slice_get left i ≡ Some p → (rest ≡ without (p.1).0 left) × (after ≡ before ++ Mov p.1 p.0 ∷ [])
