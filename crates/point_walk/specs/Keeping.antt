-- Rows in which each register keeps its place from the row before.
use Rattle.std.specs.Prelude.{ℕ, ◌≡◌, ◌<◌, ◌≤◌, List, [], ◌∷◌, Option, Some, None, slice_set}
use Rattle.std.specs.List.{Contains}
use Rattle.micro_isa.specs.declared.program.Line.{Line}
use Rattle.micro_isa.specs.declared.program.VReg.{VReg}
use Rattle.liveness.specs.Liveness.{LiveIn}
use Rattle.liveness.specs.Pressures.{HasRoom}
use Rattle.liveness.specs.Sets.{members}
use Rattle.point_walk.specs.declared.seats.Seats.{Seats}
use Rattle.point_walk.specs.Walks.{Table, place_at}
use Rattle.point_walk.specs.Tables.{ArePlacesOf}

-- every register that has a place is of the list
pub record AreAmong (table : Table) (ks : List ℕ) : Type 0 where
  pub among : (k x : ℕ) → place_at table k ≡ Some x → Contains ks k

-- every register of the list has a place
pub record AreFull (table : Table) (ks : List ℕ) : Type 0 where
  pub full : (k : ℕ) → Contains ks k → (x : ℕ) × (place_at table k ≡ Some x)

-- no two registers of the list have one place
pub record AreApart (table : Table) (ks : List ℕ) : Type 0 where
  pub apart : (k l x : ℕ) → Contains ks k → Contains ks l → place_at table k ≡ Some x → place_at table l ≡ Some x → k ≡ l

-- who has places in the table: all of them, those that have places of their own, and these places
pub record AreSeats (table : Table) (seats : Seats) : Type 0 where
  pub among : AreAmong table (members 128 seats.held)
  pub full : AreFull table (members 128 seats.own)
  pub apart : AreApart table (members 128 seats.own)
  pub places : ArePlacesOf (members 128 seats.own) table seats.taken

-- the written register has no place that one of the list has
pub record IsAlone (table : Table) (ks : List ℕ) (written : Option VReg) : Type 0 where
  pub alone : (d : VReg) (k x : ℕ) → written ≡ Some d → Contains ks k → place_at table k ≡ Some x → place_at table d.0 ≡ Some x → ⊥

-- wishes for row i: of the registers that are live in no two have one place
pub record AreWishes (code : List Line) (r i : ℕ) (wishes : Table) : Type 0 where
  pub low : (k x : ℕ) → place_at wishes k ≡ Some x → x < r
  pub apart : (k l x : ℕ) → LiveIn code i k → LiveIn code i l → place_at wishes k ≡ Some x → place_at wishes l ≡ Some x → k ≡ l

-- such wishes, where each row has room
pub record HasWishes (code : List Line) (p i : ℕ) (wishes : Table) : Type 0 where
  pub r : ℕ
  pub order : p ≤ r
  pub room : HasRoom code p r
  pub are : AreWishes code r i wishes

-- the registers of the list have places below p
abbrev pub AreBelow : ℕ → Table → List ℕ → Type 0
AreBelow p table [] = Unit {0}
AreBelow p table (k ∷ ks) = (x : ℕ) × (place_at table k ≡ Some x) × (x < p) × AreBelow p table ks

-- those registers of the list that have a place have one below p
abbrev pub AreLow : ℕ → Table → List ℕ → Type 0
AreLow p table [] = Unit {0}
AreLow p table (k ∷ ks) = ((x : ℕ) → place_at table k ≡ Some x → x < p) × AreLow p table ks

-- the table without the places of these registers
abbrev pub cleared : Table → List ℕ → Table
cleared table [] = table
cleared table (k ∷ ks) = cleared (slice_set table k None) ks
