-- The steps that stand for moves at once: the first pair whose target is no source, while there is one; else what
-- opens the cycle of the first pair.
use Rattle.std.specs.List.{filter}
use Rattle.std.specs.Prelude.{ℕ, zero, suc, List, [], ◌∷◌, ◌++◌, map, not, length, Bool, true, false, Option, Some, None, ◌==◌, if◌then◌else◌}
use Rattle.micro_isa.specs.declared.image.PReg.{PReg}
use Rattle.edge_moves.specs.declared.step.Step.{Step}
use Rattle.edge_moves.specs.declared.step.Step.TheVariants.{Mov, Xor}

-- a source and its target
abbrev pub Pair : Type 0
Pair = PReg × PReg

-- the pairs that move something
abbrev pub moving : List Pair → List Pair
moving [] = []
moving (p ∷ ps) = if (p.0).0 == (p.1).0 then moving ps else p ∷ moving ps

-- whether some pair has this source
abbrev pub is_source : List Pair → ℕ → Bool
is_source [] r = false
is_source (p ∷ ps) r = if (p.0).0 == r then true else is_source ps r

-- the first pair whose target is no source among all of them
abbrev pub first_free : List Pair → List Pair → Option Pair
first_free all [] = None
first_free all (p ∷ ps) = if is_source all (p.1).0 then first_free all ps else Some p

-- the pairs but for that with this target
abbrev pub without : ℕ → List Pair → List Pair
without t = filter (λ p. not ((p.1).0 == t))

-- the pair, with b in place of the source a
abbrev pub from_there : ℕ → PReg → Pair → Pair
from_there a b p = (if (p.0).0 == a then b else p.0, p.1)

-- all pairs, with b in place of the source a
abbrev pub renamed : ℕ → PReg → List Pair → List Pair
renamed a b = map (from_there a b)

-- where the value in this register is to go
abbrev pub target_of : List Pair → ℕ → Option PReg
target_of [] r = None
target_of (p ∷ ps) r = if (p.0).0 == r then Some p.1 else target_of ps r

-- after an exchange of s with the register whose value goes to u: the pair from s to u takes the place of both
abbrev pub joined : PReg → List Pair → Option PReg → List Pair
joined s ps None = ps
joined s ps (Some u) = if u.0 == s.0 then without u.0 ps else (s, u) ∷ without u.0 ps

-- what is done in one turn, and what then remains
pub record Turn : Type 0 where
  pub steps : List Step
  pub left : List Pair

-- what opens a cycle at the first pair: the value of its target t is saved in the free register f, from which it then
-- goes where t's value was to go; or the two registers are exchanged
abbrev pub open_cycle : Option PReg → List Pair → Turn
open_cycle free [] = record { steps = []; left = [] }
open_cycle (Some f) (p ∷ ps) = record { steps = Mov f p.1 ∷ Mov p.1 p.0 ∷ []; left = renamed (p.1).0 f ps }
open_cycle None (p ∷ ps) = record {
  steps = Xor p.0 p.1 ∷ Xor p.1 p.0 ∷ Xor p.0 p.1 ∷ [];
  left = joined p.0 ps (target_of ps (p.1).0);
}

-- a turn, given the first pair whose target is no source
abbrev pub turn_at : Option PReg → List Pair → Option Pair → Turn
turn_at free left (Some p) = record { steps = Mov p.1 p.0 ∷ []; left = without (p.1).0 left }
turn_at free left None = open_cycle free left

-- one turn
abbrev pub turn : Option PReg → List Pair → Turn
turn free left = turn_at free left (first_free left left)

-- the turns for what remains, which is at most n pairs
abbrev pub steps_from : Option PReg → ℕ → List Pair → List Step
steps_from free zero left = []
steps_from free (suc n) left = (turn free left).steps ++ steps_from free n (turn free left).left

-- the whole list, for the pairs that move something
abbrev pub move_steps : List Pair → Option PReg → List Step
move_steps pairs free = steps_from free (length pairs) (moving pairs)
