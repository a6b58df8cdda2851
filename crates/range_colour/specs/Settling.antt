-- How a first fit is found: by sets of registers, as bits of numbers.
use Rattle.std.specs.Prelude.{ℕ, ◌≡◌, ◌==◌, ◌≢◌, ◌+◌, ◌^◌, ◌<◌, ◌≤◌, ◌⊎◌, ◌↔◌, if◌then◌else◌, List, [], ◌∷◌, ◌++◌, length, slice_index, bit_and}
use Rattle.std.specs.Int.{bit_at, bit_not, w128}
use Rattle.micro_isa.specs.declared.limits.TheConstants.{MOST_REGISTERS}
use Rattle.micro_isa.specs.declared.program.Line.{Line}
use Rattle.range_colour.specs.Groups.{MeetsIn, CrossesIn}

-- the set has the register
abbrev pub In : ℕ → ℕ → Type 0
In set k = bit_at set k ≡ 1

-- registers j and k meet, by the sets of those that each one meets
abbrev pub MeetBy : List ℕ → ℕ → ℕ → Type 0
MeetBy meets j k = In (slice_index meets k) j

-- registers j and k meet, by the set of one of them
abbrev pub HalfMeet : List ℕ → ℕ → ℕ → Type 0
HalfMeet meets j k = MeetBy meets j k ⊎ MeetBy meets k j

-- any two of the set meet, by the set of one of them
abbrev pub AllHalfMeet : List ℕ → ℕ → Type 0
AllHalfMeet meets set = (j k : ℕ) → In set j → In set k → HalfMeet meets j k

-- the first n instructions of a list
abbrev pub AmongFirst : List ℕ → ℕ → ℕ → Type 0
AmongFirst list n i = (at : ℕ) × (at < n) × (slice_index list at ≡ i)

-- the sets are those of a group of instructions
pub record IsGathered (code : List Line) (Group : ℕ → Type 0) (registers crossing : ℕ) (meets : List ℕ) : Type 0 where
  pub long : length meets ≡ MOST_REGISTERS
  pub there : (k : ℕ) → In registers k ↔ MeetsIn code Group k k
  pub meet : (j k : ℕ) → MeetBy meets j k ↔ MeetsIn code Group j k
  pub cross : (k : ℕ) → In crossing k ↔ CrossesIn code Group k

-- a register has the least place that none of the settled ones has which it meets
pub record IsLeastFree (meets : List ℕ) (Settled : ℕ → Type 0) (f : ℕ → ℕ) (k : ℕ) : Type 0 where
  pub apart : (j : ℕ) → Settled j → MeetBy meets j k → f j ≢ f k
  pub least : (q : ℕ) → q < f k → (j : ℕ) × Settled j × MeetBy meets j k × (f j ≡ q)

-- for each place the set of the settled registers that have it
pub record AreTaken (Settled : ℕ → Type 0) (f : ℕ → ℕ) (taken : List ℕ) : Type 0 where
  pub has : (q j : ℕ) → q < length taken → In (slice_index taken q) j ↔ (Settled j × (f j ≡ q))
  pub within : (j : ℕ) → Settled j → f j < length taken

-- the least place that none of the others has
pub record IsFreePlace (taken : List ℕ) (others place : ℕ) : Type 0 where
  pub within : place ≤ length taken
  pub before : (q : ℕ) → q < place → (j : ℕ) × In (slice_index taken q) j × In others j
  pub free : (j : ℕ) → place < length taken → In (slice_index taken place) j → In others j → ⊥

-- the places with one more where this one was not there
abbrev pub opened : List ℕ → ℕ → List ℕ
opened taken place = if place == length taken then taken ++ 0 ∷ [] else taken

-- the done registers, and those of the set below n
abbrev pub Before : ℕ → ℕ → ℕ → ℕ → Type 0
Before done set n j = In done j ⊎ (In set j × (j < n))

-- after the registers of a set below n were settled behind the done ones; the greatest of their places is one below `above`
pub record IsSettledTo (meets : List ℕ) (done set n : ℕ) (old new by_place : List ℕ) (above : ℕ) : Type 0 where
  pub long : length new ≡ length old
  pub taken : AreTaken (Before done set n) (slice_index new) by_place
  pub free : (k : ℕ) → In set k → k < n → IsLeastFree meets (Before done set k) (slice_index new) k
  pub kept : (j : ℕ) → In done j → slice_index new j ≡ slice_index old j
  pub below : (k : ℕ) → In set k → k < n → slice_index new k < above
  pub reached : (above ≡ 0) ⊎ ((k : ℕ) × In set k × (k < n) × (above ≡ slice_index new k + 1))

-- all registers of a group were settled, the crossing ones first
pub record IsColoured (registers crossing : ℕ) (meets places : List ℕ) (p r : ℕ) : Type 0 where
  pub small : registers < 2 ^ 128
  pub small_crossing : crossing < 2 ^ 128
  pub start : List ℕ
  pub middle : List ℕ
  pub taken_first : List ℕ
  pub taken_second : List ℕ
  pub long : length places ≡ length start
  pub first : IsSettledTo meets 0 crossing MOST_REGISTERS start middle taken_first p
  pub second : IsSettledTo meets crossing (bit_and registers (bit_not w128 crossing)) MOST_REGISTERS middle places taken_second r
