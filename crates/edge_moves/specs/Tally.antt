-- How the cost is counted: by the pairs outside cycles, the pairs on cycles, and the cycles.
use Rattle.std.specs.List.{filter}
use Rattle.std.specs.Prelude.{ℕ, zero, suc, ◌≡◌, ◌≢◌, ◌≤◌, ◌+◌, ◌-◌, ◌*◌, Bool, true, false, List, [], ◌∷◌, ◌++◌, length, Option, Some, None, is_some, slice_index_or, if◌then◌else◌}
use Rattle.micro_isa.specs.declared.image.PReg.{PReg}
use Rattle.edge_moves.specs.MoveSteps.{Pair, moving, is_source, first_free, without}
use Rattle.edge_moves.specs.ParallelMove.{source_to, is_target}

-- the source of the remaining pair with each target, by the target's number
abbrev pub SourceTable : Type 0
SourceTable = List (Option PReg)

-- the number of a register, if there is one
abbrev pub number_of : Option PReg → Option ℕ
number_of None = None
number_of (Some r) = Some r.0

-- the table has the source of each of these pairs, by its target, and no other one
pub record Holds (table : SourceTable) (left : List Pair) : Type 0 where
  pub at : (q : ℕ) → number_of (slice_index_or table q None) ≡ source_to left q

-- how many entries the table has
abbrev pub filled : SourceTable → ℕ
filled [] = 0
filled (None ∷ rest) = filled rest
filled (Some r ∷ rest) = suc (filled rest)

-- whether the pair remains: its target has a source in the table
abbrev pub is_left : SourceTable → Pair → Bool
is_left table p = is_some (slice_index_or table (p.1).0 None)

-- the pairs that remain
abbrev pub left_of : SourceTable → List Pair → List Pair
left_of table = filter (is_left table)

-- the pair that a turn takes where its target is no source
abbrev pub taken : Option Pair → List Pair
taken None = []
taken (Some p) = p ∷ []

-- what remains after such a turn
abbrev pub kept : List Pair → Option Pair → List Pair
kept left None = left
kept left (Some p) = without (p.1).0 left

-- what n turns take before a cycle has to be opened
abbrev pub outside : ℕ → List Pair → List Pair
outside zero left = []
outside (suc n) left = taken (first_free left left) ++ outside n (kept left (first_free left left))

-- what then remains
abbrev pub inside : ℕ → List Pair → List Pair
inside zero left = left
inside (suc n) left = inside n (kept left (first_free left left))

-- what remains after a turn that may open a cycle: an opened cycle keeps the names of its sources
abbrev pub left_at : List Pair → Option Pair → List Pair
left_at left (Some p) = without (p.1).0 left
left_at [] None = []
left_at (p ∷ ps) None = ps

-- how many cycles such a turn opens
abbrev pub opens_at : List Pair → Option Pair → ℕ
opens_at left (Some p) = 0
opens_at [] None = 0
opens_at (p ∷ ps) None = 1

-- how many cycles n turns open
abbrev pub openings : ℕ → List Pair → ℕ
openings zero left = 0
openings (suc n) left = opens_at left (first_free left left) + openings n (left_at left (first_free left left))

-- a chain ends in this register: it is a target and no source
abbrev pub IsEnd : List Pair → ℕ → Type 0
IsEnd left q = (is_target left q ≡ true) × (is_source left q ≡ false)

-- from a register that is no source, pairs were taken backwards, each into the source of the one before; the hole is the
-- last one's source: no other chain ends elsewhere than before, and the same pairs are on cycles
pub record Unwound (left : List Pair) (last : ℕ) (now : List Pair) (hole : ℕ) : Type 0 where
  pub free : is_source now hole ≡ false
  pub ends : (q : ℕ) → IsEnd now q → q ≢ hole → IsEnd left q × (q ≢ last)
  pub few : length now ≤ length left
  pub same : (n : ℕ) → length left ≤ n → inside n now ≡ inside n left

-- the same, of the tables before and now: no entry was added
pub record TakenBack (pairs : List Pair) (before : SourceTable) (last : ℕ) (now : SourceTable) (hole : ℕ) : Type 0 where
  pub holds : Holds now (left_of now pairs)
  pub unwound : Unwound (left_of before pairs) last (left_of now pairs) hole
  pub taken : (q : ℕ) → slice_index_or before q None ≡ None → slice_index_or now q None ≡ None

-- where all that remains is on cycles: the cycle at one pair was taken, if the pair was on one, and all that then remains is
-- among the pairs after it
pub record CycleTaken (pairs rest : List Pair) (before now : SourceTable) (opened : Bool) : Type 0 where
  pub holds : Holds now (left_of now pairs)
  pub closed : first_free (left_of now pairs) (left_of now pairs) ≡ None
  pub later : left_of now rest ≡ left_of now pairs
  pub number : openings (length (left_of before pairs)) (left_of before pairs) ≡ (if opened then 1 else 0) + openings (length (left_of now pairs)) (left_of now pairs)

-- the steps, from the numbers of pairs outside cycles, of pairs on cycles and of cycles
abbrev pub sum_of : Bool → ℕ → ℕ → ℕ → ℕ
sum_of true outside inside cycles = outside + inside + cycles
sum_of false outside inside cycles = outside + 3 * (inside - cycles)

-- the steps for these pairs
abbrev pub counted : Bool → List Pair → ℕ
counted has_free pairs =
    let chains = length (outside (length pairs) (moving pairs)) in
    let rings = inside (length pairs) (moving pairs) in
    sum_of has_free chains (length rings) (openings (length rings) rings)
