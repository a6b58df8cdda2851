-- Rings of instructions: on that of each are itself and those that one kind of edge joins with it.
use Rattle.std.specs.Prelude.{ℕ, ◌≡◌, ◌<◌, ◌≤◌, ◌⊎◌, ◌↔◌, Bool, true, false, cond, List, Option, Some, None, length, slice_get, slice_index_or, slice_set}
use Rattle.micro_isa.specs.declared.instr.Next.{Next}
use Rattle.micro_isa.specs.declared.program.Line.{Line}
use Rattle.micro_isa.specs.Columns.{switches_at, next_of}
use Rattle.flow_graph.specs.Paths.{Walk, IsClosedCode}
use Rattle.pressure.specs.Regions.{Connected}
use Rattle.pressure.specs.declared.ring.Rings.{Rings}

-- the successor of one kind
abbrev pub way_of : Bool → Next → Option ℕ
way_of jumps next = cond jumps next.jump next.fall

-- i does not switch, and its successor of this kind is j
abbrev pub JoinedBy : List Line → Bool → ℕ → ℕ → Type 0
JoinedBy code jumps i j = (line : Line) × (slice_get code i ≡ Some line) × (switches_at line.instr ≡ false) × (way_of jumps (next_of line.instr i) ≡ Some j)

-- what instruction i is joined with by an edge of this kind
pub record IsTarget (code : List Line) (jumps : Bool) (i : ℕ) (target : Option ℕ) : Type 0 where
  pub exact : (j : ℕ) → (target ≡ Some j) ↔ JoinedBy code jumps i j

-- b comes after a on a ring: on its own, or on that of the instruction that it leads to
abbrev pub Link : List (Option ℕ) → List (Option ℕ) → ℕ → ℕ → Type 0
Link own target a b = (slice_index_or own a None ≡ Some b) ⊎ (slice_index_or target a None ≡ Some b)

-- links lead from a to b
abbrev pub Leads : (ℕ → ℕ → Type 0) → ℕ → ℕ → Type 0
Leads link a b = (rest : List ℕ) × Walk link a rest b

-- the rings have what the instructions below m are joined with
pub record AreRings (code : List Line) (jumps : Bool) (m : ℕ) (own target : List (Option ℕ)) : Type 0 where
  pub own_each : length own ≡ length code
  pub target_each : length target ≡ length code
  pub back : (j : ℕ) → j < length code → (x : ℕ) × (slice_index_or own j None ≡ Some x) × Leads (Link own target) x j
  pub linked : (a b : ℕ) → Link own target a b → Connected code a b
  pub joined : (i j : ℕ) → i < m → JoinedBy code jumps i j → Leads (Link own target) i j × Leads (Link own target) j i
  pub free : (i : ℕ) → m ≤ i → slice_index_or target i None ≡ None

-- the rings have what all instructions are joined with by edges of this kind
abbrev pub AreRingsOf : List Line → Bool → Rings → Type 0
AreRingsOf code jumps rings = AreRings code jumps (length code) rings.own rings.target

-- closed code, and the rings of both kinds
pub record AreRinged (code : List Line) (falls jumps : Rings) : Type 0 where
  pub closed : IsClosedCode code
  pub by_fall : AreRingsOf code false falls
  pub by_jump : AreRingsOf code true jumps

-- b comes after a on a ring of either kind
abbrev pub LinkOf : Rings → Rings → ℕ → ℕ → Type 0
LinkOf falls jumps a b = Link falls.own falls.target a b ⊎ Link jumps.own jumps.target a b

-- each instruction is alone on its ring
pub record IsAlone (n : ℕ) (own : List (Option ℕ)) : Type 0 where
  pub one_each : length own ≡ n
  pub itself : (i : ℕ) → i < n → slice_index_or own i None ≡ Some i

-- nobody at each of n instructions
pub record IsNobody (n : ℕ) (list : List (Option ℕ)) : Type 0 where
  pub one_each : length list ≡ n
  pub none : (i : ℕ) → slice_index_or list i None ≡ None

-- the rings after i was put on that of an instruction: who comes after each on its own ring
abbrev pub own_after : List (Option ℕ) → ℕ → Option ℕ → List (Option ℕ)
own_after own i None = own
own_after own i (Some to) = slice_set own to (Some i)

-- and on that of the instruction that it leads to
abbrev pub target_after : List (Option ℕ) → List (Option ℕ) → ℕ → Option ℕ → List (Option ℕ)
target_after own target i None = target
target_after own target i (Some to) = slice_set target i (slice_index_or own to None)
