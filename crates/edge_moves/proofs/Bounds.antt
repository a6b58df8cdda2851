-- No turn brings in a register: the steps stay within the registers of the pairs and the free one.
use Rattle.std.proofs.Common.{◌≡◌, ℕ, zero, suc, ◌<◌, List, [], ◌∷◌, ◌++◌, length, Option, Some, None, Bool, true, false, sym, subst}
use Rattle.std.specs.Prelude.{not, ◌==◌, if◌then◌else◌}
use Rattle.micro_isa.specs.declared.image.PReg.{PReg}
use Rattle.edge_moves.specs.declared.step.Step.{Step}
use Rattle.edge_moves.specs.MoveSteps.{Pair, moving, is_source, first_free, without, renamed, target_of, joined, Turn, open_cycle, turn_at, turn, steps_from, move_steps}
use Rattle.edge_moves.specs.Within.{StepsWithin, PairsWithin, FreeWithin, KeepsWithin}

append_within : (r : ℕ) (a b : List Step) → StepsWithin r a → StepsWithin r b → StepsWithin r (a ++ b)
append_within r [] b h k = k
append_within r (s ∷ a) b h k = (h.0, append_within r a b h.1 k)

without_by : (r t : ℕ) (p : Pair) (ps : List Pair) → PairsWithin r (p ∷ ps) → PairsWithin r (without t ps) → (b : Bool) → PairsWithin r (if b then p ∷ without t ps else without t ps)
without_by r t p ps h rest true = (h.0, h.1, rest)
without_by r t p ps h rest false = rest

without_within : (r t : ℕ) (ps : List Pair) → PairsWithin r ps → PairsWithin r (without t ps)
without_within r t [] h = tt
without_within r t (p ∷ ps) h = without_by r t p ps h (without_within r t ps h.2) (not ((p.1).0 == t))

moving_by : (r : ℕ) (p : Pair) (ps : List Pair) → PairsWithin r (p ∷ ps) → PairsWithin r (moving ps) → (b : Bool) → PairsWithin r (if b then moving ps else p ∷ moving ps)
moving_by r p ps h rest true = rest
moving_by r p ps h rest false = (h.0, h.1, rest)

moving_within : (r : ℕ) (ps : List Pair) → PairsWithin r ps → PairsWithin r (moving ps)
moving_within r [] h = tt
moving_within r (p ∷ ps) h = moving_by r p ps h (moving_within r ps h.2) ((p.0).0 == (p.1).0)

either_within : (r : ℕ) (a b : PReg) → a.0 < r → b.0 < r → (t : Bool) → (if t then a else b).0 < r
either_within r a b h k true = h
either_within r a b h k false = k

renamed_within : (r a : ℕ) (b : PReg) (ps : List Pair) → b.0 < r → PairsWithin r ps → PairsWithin r (renamed a b ps)
renamed_within r a b [] k h = tt
renamed_within r a b (p ∷ ps) k h = (either_within r b p.0 k h.0 ((p.0).0 == a), h.1, renamed_within r a b ps k h.2)

target_by : (r : ℕ) (t : PReg) (o : Option PReg) → t.0 < r → FreeWithin r o → (b : Bool) → FreeWithin r (if b then Some t else o)
target_by r t o h k true = h
target_by r t o h k false = k

target_within : (r s : ℕ) (ps : List Pair) → PairsWithin r ps → FreeWithin r (target_of ps s)
target_within r s [] h = tt
target_within r s (p ∷ ps) h = target_by r p.1 (target_of ps s) h.1 (target_within r s ps h.2) ((p.0).0 == s)

joined_by : (r : ℕ) (s u : PReg) (ps : List Pair) → s.0 < r → u.0 < r → PairsWithin r ps → (b : Bool) → PairsWithin r (if b then without u.0 ps else (s, u) ∷ without u.0 ps)
joined_by r s u ps h k rest true = without_within r u.0 ps rest
joined_by r s u ps h k rest false = (h, k, without_within r u.0 ps rest)

joined_within : (r : ℕ) (s : PReg) (ps : List Pair) (o : Option PReg) → s.0 < r → FreeWithin r o → PairsWithin r ps → PairsWithin r (joined s ps o)
joined_within r s ps None h k rest = rest
joined_within r s ps (Some u) h k rest = joined_by r s u ps h k rest (u.0 == s.0)

abbrev PairWithin : ℕ → Option Pair → Type 0
PairWithin r None = Unit {0}
PairWithin r (Some p) = ((p.0).0 < r) × ((p.1).0 < r)

first_by : (r : ℕ) (p : Pair) (o : Option Pair) → (p.0).0 < r → (p.1).0 < r → PairWithin r o → (b : Bool) → PairWithin r (if b then o else Some p)
first_by r p o h k rest true = rest
first_by r p o h k rest false = (h, k)

first_within : (r : ℕ) (all ps : List Pair) → PairsWithin r ps → PairWithin r (first_free all ps)
first_within r all [] h = tt
first_within r all (p ∷ ps) h = first_by r p (first_free all ps) h.0 h.1 (first_within r all ps h.2) (is_source all (p.1).0)

record TurnWithin (r : ℕ) (t : Turn) : Type 0 where
  steps : StepsWithin r t.steps
  left : PairsWithin r t.left

cycle_within : (r : ℕ) (free : Option PReg) (left : List Pair) → FreeWithin r free → PairsWithin r left → TurnWithin r (open_cycle free left)
cycle_within r free [] f h = record { steps = tt; left = tt }
cycle_within r (Some f) (p ∷ ps) k h = record { steps = ((k, h.1), ((h.1, h.0), tt)); left = renamed_within r (p.1).0 f ps k h.2 }
cycle_within r None (p ∷ ps) k h = record {
  steps = ((h.0, h.1), ((h.1, h.0), ((h.0, h.1), tt)));
  left = joined_within r p.0 ps (target_of ps (p.1).0) h.0 (target_within r (p.1).0 ps h.2) h.2;
}

turn_within : (r : ℕ) (free : Option PReg) (left : List Pair) (o : Option Pair) → FreeWithin r free → PairsWithin r left → PairWithin r o → TurnWithin r (turn_at free left o)
turn_within r free left None f h k = cycle_within r free left f h
turn_within r free left (Some p) f h k = record { steps = ((k.1, k.0), tt); left = without_within r (p.1).0 left h }

from_within : (r : ℕ) (free : Option PReg) (n : ℕ) (left : List Pair) → FreeWithin r free → PairsWithin r left → StepsWithin r (steps_from free n left)
from_within r free zero left f h = tt
from_within r free (suc n) left f h =
    let t = turn_within r free left (first_free left left) f h (first_within r left left h) in
    append_within r (turn free left).steps (steps_from free n (turn free left).left) t.steps (from_within r free n (turn free left).left f t.left)

pub keeps_within : (pairs : List Pair) (free : Option PReg) (ss : List Step) → ss ≡ move_steps pairs free → KeepsWithin pairs free ss
keeps_within pairs free ss e r h f = subst (StepsWithin r) (sym e) (from_within r free (length pairs) (moving pairs) f (moving_within r pairs h))
