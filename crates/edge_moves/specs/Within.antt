-- The steps name only registers that the pairs or the free register reach.
use Rattle.std.specs.Prelude.{ℕ, ◌<◌, List, [], ◌∷◌, Option, Some, None}
use Rattle.micro_isa.specs.declared.image.PReg.{PReg}
use Rattle.edge_moves.specs.declared.step.Step.{Step}
use Rattle.edge_moves.specs.declared.step.Step.TheVariants.{Mov, Xor}
use Rattle.edge_moves.specs.MoveSteps.{Pair}

-- the registers of a step are below r
abbrev pub StepWithin : ℕ → Step → Type 0
StepWithin r (Mov to from) = (to.0 < r) × (from.0 < r)
StepWithin r (Xor to with) = (to.0 < r) × (with.0 < r)

-- the registers of all steps are below r
abbrev pub StepsWithin : ℕ → List Step → Type 0
StepsWithin r [] = Unit {0}
StepsWithin r (s ∷ ss) = StepWithin r s × StepsWithin r ss

-- the registers of all pairs are below r
abbrev pub PairsWithin : ℕ → List Pair → Type 0
PairsWithin r [] = Unit {0}
PairsWithin r (p ∷ ps) = ((p.0).0 < r) × ((p.1).0 < r) × PairsWithin r ps

-- the free register, where there is one, is below r
abbrev pub FreeWithin : ℕ → Option PReg → Type 0
FreeWithin r None = Unit {0}
FreeWithin r (Some f) = f.0 < r

-- the steps name only registers below each r that the pairs and the free register are below
abbrev pub KeepsWithin : List Pair → Option PReg → List Step → Type 0
KeepsWithin pairs free ss = (r : ℕ) → PairsWithin r pairs → FreeWithin r free → StepsWithin r ss
