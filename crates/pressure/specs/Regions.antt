-- Regions: the connected parts of the graph that joins an instruction with its successors where it doesn't switch.
use Rattle.std.specs.Prelude.{ℕ, ◌≡◌, ◌<◌, ◌≤◌, ◌⊎◌, ◌↔◌, false, List, Some, length, slice_get, slice_index}
use Rattle.micro_isa.specs.declared.program.Line.{Line}
use Rattle.micro_isa.specs.Columns.{switches_at, next_of}
use Rattle.flow_graph.specs.Paths.{GoesTo, Walk}
use Rattle.pressure.specs.declared.region.Regions.{Regions}

-- there is an edge from i to j, and i does not switch
abbrev pub Joined : List Line → ℕ → ℕ → Type 0
Joined code i j = (line : Line) × (slice_get code i ≡ Some line) × (switches_at line.instr ≡ false) × GoesTo (next_of line.instr i) j

-- joined in either direction
abbrev pub Adjacent : List Line → ℕ → ℕ → Type 0
Adjacent code i j = Joined code i j ⊎ Joined code j i

-- i and j are in one region
abbrev pub Connected : List Line → ℕ → ℕ → Type 0
Connected code i j = (rest : List ℕ) × Walk (Adjacent code) i rest j

-- m is the least instruction of i's region
pub record IsLeastOf (code : List Line) (i m : ℕ) : Type 0 where
  pub in_it : Connected code i m
  pub least : (j : ℕ) → Connected code i j → m ≤ j

-- the regions are numbered by their least instructions, in order and without a gap
pub record IsNumbered (code : List Line) (numbers : List ℕ) (count : ℕ) : Type 0 where
  pub one_each : length numbers ≡ length code
  pub same : (i j : ℕ) → i < length code → j < length code → (slice_index numbers i ≡ slice_index numbers j) ↔ Connected code i j
  pub in_order : (i j a b : ℕ) → i < length code → j < length code → IsLeastOf code i a → IsLeastOf code j b
      → a < b → slice_index numbers i < slice_index numbers j
  pub below : (i : ℕ) → i < length code → slice_index numbers i < count
  pub each : (k : ℕ) → k < count → (i : ℕ) × (i < length code) × (slice_index numbers i ≡ k)

-- the number of each instruction's region
abbrev pub numbers_in : Regions → List ℕ
numbers_in regions = regions.numbers

-- how many regions there are
abbrev pub count_in : Regions → ℕ
count_in regions = regions.count

-- the regions are those of this code
abbrev pub AreRegionsOf : List Line → Regions → Type 0
AreRegionsOf code regions = IsNumbered code (numbers_in regions) (count_in regions)
