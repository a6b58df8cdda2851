-- The law on costs: one step a pair outside cycles, and for each cycle its own cost.
use Rattle.std.specs.Prelude.{◌≡◌, ℕ, ◌+◌, ◌-◌, ◌*◌, nat_lt, if◌then◌else◌, Bool, true, false, List, [], ◌∷◌, ◌++◌, length}
use Rattle.edge_moves.specs.MoveSteps.{Pair, moving, is_source}
use Rattle.edge_moves.specs.ParallelMove.{source_to}

-- the pairs lead from one register back to another: each pair's target is the source of the one before
abbrev pub LeadBack : ℕ → List Pair → ℕ → Type 0
LeadBack start [] end = start ≡ end
LeadBack start (p ∷ ps) end = ((p.1).0 ≡ start) × LeadBack (p.0).0 ps end

-- a cycle: each pair's target is the source of the one before, and the first one's target is the source of the last
abbrev pub IsCycle : List Pair → Type 0
IsCycle [] = ⊥
IsCycle (p ∷ ps) = LeadBack (p.0).0 ps (p.1).0

-- each of these lists is a cycle
abbrev pub AreCycles : List (List Pair) → Type 0
AreCycles [] = Unit {0}
AreCycles (c ∷ cs) = IsCycle c × AreCycles cs

-- the pairs of all cycles
abbrev pub pairs_of : List (List Pair) → List Pair
pairs_of [] = []
pairs_of (c ∷ cs) = c ++ pairs_of cs

-- no pair is on a cycle: each one's target is no source of itself, of a later pair or of the others
abbrev pub Unwinds : List Pair → List Pair → Type 0
Unwinds [] others = Unit {0}
Unwinds (p ∷ ps) others = (is_source (p ∷ ps ++ others) (p.1).0 ≡ false) × Unwinds ps others

-- the same pairs, in whatever order: as many, to each target from the same source, and the same sources
pub record SamePairs (xs ys : List Pair) : Type 0 where
  pub number : length xs ≡ length ys
  pub to : (q : ℕ) → source_to xs q ≡ source_to ys q
  pub sources : (q : ℕ) → is_source xs q ≡ is_source ys q

-- the steps of a cycle of n pairs: n + 1 with a free register, 3 (n - 1) without
abbrev pub cycle_cost : Bool → ℕ → ℕ
cycle_cost true n = n + 1
cycle_cost false n = 3 * (n - 1)

-- the steps of all cycles
abbrev pub cycles_cost : Bool → List (List Pair) → ℕ
cycles_cost has_free [] = 0
cycles_cost has_free (c ∷ cs) = cycle_cost has_free (length c) + cycles_cost has_free cs

-- the most steps for n pairs: the pair alone, or an exchange for each pair but one
abbrev pub most_steps : ℕ → ℕ
most_steps n = if nat_lt n 2 then n else 3 * (n - 1)

-- the pairs that move something are some outside cycles, one step each, and cycles, and the cost is the sum
pub record CostsByCycle (pairs : List Pair) (has_free : Bool) (cost : ℕ) : Type 0 where
  pub outside : List Pair
  pub cycles : List (List Pair)
  pub same : SamePairs (outside ++ pairs_of cycles) (moving pairs)
  pub unwinds : Unwinds outside (pairs_of cycles)
  pub closed : AreCycles cycles
  pub sum : cost ≡ length outside + cycles_cost has_free cycles
