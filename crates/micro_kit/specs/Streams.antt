-- What sources give and sinks take, and when a fault may be answered.
use Rattle.std.specs.Prelude.{◌≡◌, ℕ, ◌+◌, ◌-◌, ◌^◌, ◌≤◌, min, List, [], ◌++◌, length, take, Option, Some, None, option_map}
use Rattle.micro_kit.specs.declared.stream.Got.{Got}
use Rattle.micro_kit.specs.declared.stream.Got.TheVariants as got
use Rattle.micro_kit.specs.declared.stream.Put.{Put}
use Rattle.micro_kit.specs.declared.stream.Put.TheVariants as put
use Rattle.micro_kit.specs.declared.whole.ReadFault.{ReadFault}
use Rattle.micro_kit.specs.declared.whole.ReadFault.TheVariants as fault

-- a count is greater than it was, or stands at the greatest u64
abbrev pub Rose : ℕ → ℕ → Type 0
Rose before now = min (before + 1) (2 ^ 64 - 1) ≤ now

-- what was left is these bytes and then what is left now; or neither is told
abbrev pub Gives : Option (List ℕ) → List ℕ → Option (List ℕ) → Type 0
Gives before bytes after = before ≡ option_map (λ rest. bytes ++ rest) after

-- some bytes were given, this many at most
abbrev pub GivesAtMost : Option (List ℕ) → ℕ → Option (List ℕ) → Type 0
GivesAtMost before most after = (bytes : List ℕ) × Gives before bytes after × (length bytes ≤ most)

-- these bytes were appended to what was taken; or neither is told
abbrev pub Grew : Option (List ℕ) → List ℕ → Option (List ℕ) → Type 0
Grew before bytes after = after ≡ option_map (λ told. told ++ bytes) before

-- nothing is left, where that is told
abbrev pub IsSpent : Option (List ℕ) → Type 0
IsSpent None = Unit {0}
IsSpent (Some bytes) = bytes ≡ []

-- one read: what it answers, what was left before and after it, the faults before and after it, the buffer
abbrev pub Reads : Got → Option (List ℕ) → Option (List ℕ) → ℕ → ℕ → List ℕ → Type 0
Reads (got.Bytes n) before after f g into = (1 ≤ n) × (n ≤ length into) × Gives before (take n into) after
Reads got.End before after f g into = IsSpent before × (after ≡ before)
Reads got.Failed before after f g into = Rose f g × (after ≡ before)

-- one write: what it answers, what was taken before and after it, the faults before and after it, the bytes
abbrev pub Writes : Put → Option (List ℕ) → Option (List ℕ) → ℕ → ℕ → List ℕ → Type 0
Writes (put.Took n) before after f g from = (1 ≤ n) × (n ≤ length from) × Grew before (take n from) after
Writes put.Failed before after f g from = Rose f g × (after ≡ before)

-- a source was read to its end, and this is all of it
abbrev pub IsWhole : Option (List ℕ) → List ℕ → Option (List ℕ) → ℕ → Type 0
IsWhole before bytes after limit = Gives before bytes after × IsSpent after × (length bytes ≤ limit)

-- why a source was not read to its end, and what was taken from it
abbrev pub StoppedBy : ReadFault → Option (List ℕ) → Option (List ℕ) → ℕ → ℕ → ℕ → Type 0
StoppedBy fault.Failed before after f g limit = Rose f g × GivesAtMost before limit after
StoppedBy fault.TooLong before after f g limit = (bytes : List ℕ) × Gives before bytes after × (length bytes ≡ limit + 1)
StoppedBy fault.NoMemory before after f g limit = GivesAtMost before (limit + 1) after
