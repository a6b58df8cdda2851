-- What is known of the items of lists of programs, place by place.
use Rattle.std.specs.Prelude.{ℕ, ◌≡◌, List, [], ◌∷◌, Some, slice_get}
use Rattle.micro_isa.specs.declared.program.Line.{Line}
use Rattle.micro_isa.specs.declared.program.Program.{Program}
use Rattle.flow_graph.specs.Paths.{IsClosedCode}

-- the code of each program is closed
abbrev pub AreClosed : List Program → Type 0
AreClosed [] = Unit {0}
AreClosed (p ∷ ps) = IsClosedCode p.code × AreClosed ps

-- the value is one of the program of this number
pub record IsItem {B : Type 0} (R : List Line → B → Type 0) (programs : List Program) (c : ℕ) (y : B) : Type 0 where
  pub is : (p : Program) → slice_get programs c ≡ Some p → R p.code y

-- the values are those of the first programs
abbrev pub Covers : {B : Type 0} → (List Line → B → Type 0) → List Program → List B → Type 0
Covers R ps [] = Unit {0}
Covers R [] (y ∷ ys) = ⊥
Covers R (p ∷ ps) (y ∷ ys) = R p.code y × Covers R ps ys
