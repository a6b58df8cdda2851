-- Whether there is anything to do on an edge.
use Rattle.std.specs.Prelude.{Bool, true, false, List, [], ◌∷◌}
use Rattle.edge_moves.specs.declared.step.Step.{Step}

-- there are steps
abbrev pub has_steps : List Step → Bool
has_steps [] = false
has_steps (s ∷ ss) = true
