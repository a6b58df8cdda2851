-- A flood that gives a number to all that links lead to, with a list of what is still to visit.
use Rattle.std.specs.Prelude.{ℕ, ◌≡◌, ◌+◌, ◌*◌, ◌<◌, ◌≤◌, ◌⊎◌, cond, List, [], ◌∷◌, ◌++◌, Option, Some, None, length, is_some, slice_index, slice_index_or, slice_set}
use Rattle.std.specs.List.{Contains, sum_by}
use Rattle.micro_isa.specs.declared.program.Line.{Line}
use Rattle.pressure.specs.Regions.{Connected, IsLeastOf}
use Rattle.pressure.specs.Rings.{Leads, Link}
use Rattle.pressure.specs.declared.ring.Rings.{Rings}

-- instruction i has number a
abbrev pub HasNumber : List (Option ℕ) → ℕ → ℕ → Type 0
HasNumber numbers i a = slice_index_or numbers i None ≡ Some a

-- falls with each visit, and rises with no number
abbrev pub weight : List (Option ℕ) → List ℕ → ℕ
weight numbers waiting = 2 * sum_by (λ o. cond (is_some o) 0 1) numbers + length waiting

-- the numbers after an instruction got one, where it had none
abbrev pub given : List (Option ℕ) → Option ℕ → ℕ → List (Option ℕ)
given numbers None number = numbers
given numbers (Some j) number = cond (is_some (slice_index_or numbers j None)) numbers (slice_set numbers j (Some number))

-- it is to be visited then
abbrev pub queued : List (Option ℕ) → Option ℕ → List ℕ → List ℕ
queued numbers None waiting = waiting
queued numbers (Some j) waiting = cond (is_some (slice_index_or numbers j None)) waiting (waiting ++ j ∷ [])

-- of the instructions with the property, those without a number got this one, and are to be visited
pub record Gives (P : ℕ → Type 0) (number : ℕ) (old new : List (Option ℕ)) (waiting wider : List ℕ) : Type 0 where
  pub one_each : length new ≡ length old
  pub kept : (i a : ℕ) → HasNumber old i a → HasNumber new i a
  pub only : (i a : ℕ) → HasNumber new i a → HasNumber old i a ⊎ ((a ≡ number) × P i)
  pub has : (i : ℕ) → P i → (a : ℕ) × HasNumber new i a
  pub held : (i : ℕ) → Contains waiting i → Contains wider i
  pub fresh : (i : ℕ) → Contains wider i → Contains waiting i ⊎ HasNumber new i number
  pub noted : (i : ℕ) → HasNumber new i number → HasNumber old i number ⊎ Contains wider i
  pub light : weight new wider ≤ weight old waiting

-- a flood from `start` over the links: what got the number is reached, and waits or has given on the number
pub record Floods (link : ℕ → ℕ → Type 0) (start number : ℕ) (old new : List (Option ℕ)) (waiting : List ℕ) : Type 0 where
  pub one_each : length new ≡ length old
  pub kept : (i a : ℕ) → HasNumber old i a → HasNumber new i a
  pub only : (i a : ℕ) → HasNumber new i a → HasNumber old i a ⊎ ((a ≡ number) × Leads link start i)
  pub begun : HasNumber new start number
  pub held : (i : ℕ) → Contains waiting i → HasNumber new i number
  pub done : (i : ℕ) → HasNumber new i number → Contains waiting i ⊎ ((j : ℕ) → link i j → (a : ℕ) × HasNumber new j a)

-- no instruction has the number
pub record IsUnused (numbers : List (Option ℕ)) (number : ℕ) : Type 0 where
  pub none : (i : ℕ) → HasNumber numbers i number → ⊥

-- the links lead to instructions below n
pub record AreLow (link : ℕ → ℕ → Type 0) (n : ℕ) : Type 0 where
  pub low : (a b : ℕ) → link a b → b < n

-- instruction i may be visited on rings over n instructions
pub record CanVisit (rings : Rings) (i n : ℕ) : Type 0 where
  pub own : i < length rings.own
  pub target : i < length rings.target
  pub low : AreLow (Link rings.own rings.target) n

-- the regions with an instruction below m are numbered, by their least instructions
pub record AreNumbered (code : List Line) (m count : ℕ) (numbers : List (Option ℕ)) : Type 0 where
  pub one_each : length numbers ≡ length code
  pub all : (i : ℕ) → i < m → (a : ℕ) × HasNumber numbers i a
  pub whole : (i j a : ℕ) → HasNumber numbers i a → Connected code i j → HasNumber numbers j a
  pub same : (i j a : ℕ) → HasNumber numbers i a → HasNumber numbers j a → Connected code i j
  pub early : (i a : ℕ) → HasNumber numbers i a → (k : ℕ) × (k < m) × Connected code i k
  pub below : (i a : ℕ) → HasNumber numbers i a → a < count
  pub each : (a : ℕ) → a < count → (i : ℕ) × HasNumber numbers i a
  pub in_order : (i j a b x y : ℕ) → HasNumber numbers i x → HasNumber numbers j y → IsLeastOf code i a → IsLeastOf code j b → a < b → x < y

-- the numbers without their options
pub record ArePlain (numbers : List (Option ℕ)) (plain : List ℕ) : Type 0 where
  pub one_each : length plain ≡ length numbers
  pub each : (i a : ℕ) → HasNumber numbers i a → slice_index plain i ≡ a

-- of those below n
pub record ArePlainBelow (numbers : List (Option ℕ)) (n : ℕ) (plain : List ℕ) : Type 0 where
  pub one_each : length plain ≡ n
  pub each : (i a : ℕ) → i < n → HasNumber numbers i a → slice_index plain i ≡ a
