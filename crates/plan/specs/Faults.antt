-- What is wrong with a plan, and what of it comes first.
use Rattle.std.specs.Prelude.{ℕ, ◌≡◌, ◌≢◌, ◌<◌, ◌≤◌, ◌⊎◌, List, [], ◌∷◌, Option, Some, None, Result, Ok, Err, length, slice_get, ⊤}
use Rattle.std.specs.List.{Contains}
use Rattle.micro_isa.specs.declared.limits.TheConstants.{MOST_FILE}
use Rattle.micro_isa.specs.declared.program.Line.{Line}
use Rattle.micro_isa.specs.declared.program.VReg.{VReg}
use Rattle.liveness.specs.Liveness.{LiveIn}
use Rattle.liveness.specs.Surviving.{WritesAt, Stays, Crosses}
use Rattle.plan.specs.declared.row.Place.{Place}
use Rattle.plan.specs.declared.row.PlanRow.{PlanRow}
use Rattle.plan.specs.declared.row.Plan.{Plan}
use Rattle.plan.specs.declared.fault.PlanFault.{PlanFault}
use Rattle.plan.specs.declared.fault.PlanFault.TheVariants.{Sizes, Length, Missing, Extra, ExtraWrite, Range, Twice, Crossing}
use Rattle.plan.specs.ValidPlans.{registers_of, IsValidRow, IsValidPlan}

-- no number has the property
abbrev pub Nowhere : (ℕ → Type 0) → Type 0
Nowhere P = (k : ℕ) → P k → ⊥

-- k is the least number with the property
abbrev pub IsLeast : (ℕ → Type 0) → ℕ → Type 0
IsLeast P k = P k × ((j : ℕ) → j < k → P j → ⊥)

-- the least register with the property, or none
abbrev pub IsFirst : (ℕ → Type 0) → Option VReg → Type 0
IsFirst P None = Nowhere P
IsFirst P (Some register) = IsLeast P register.0

-- the list has register k at place x
abbrev pub HasPlace : List Place → ℕ → ℕ → Type 0
HasPlace places k x = Contains places (record { register = record { 0 = k }; place = x })

-- register k has no place: it is live in and not listed, or written, and the row has no place of a write
abbrev pub IsMissing : List Line → ℕ → List Place → Option ℕ → ℕ → Type 0
IsMissing code i places write k = (LiveIn code i k × (Contains (registers_of places) k → ⊥)) ⊎ (WritesAt code i k × (write ≡ None))

-- register k is above that of the entry before, if there is one
abbrev pub IsAbove : Option VReg → ℕ → Type 0
IsAbove None k = ⊤
IsAbove (Some before) k = before.0 < k

-- an entry for register k has not the property, or is not above the entry before
abbrev pub IsStray : (ℕ → Type 0) → Option VReg → ℕ → Type 0
IsStray S before k = (S k → ⊥) ⊎ (IsAbove before k → ⊥)

-- a list, behind an entry for a register, or at a row's begin, has such an entry for register k
abbrev pub IsExtra : (ℕ → Type 0) → Option VReg → List Place → ℕ → Type 0
IsExtra S before [] k = ⊥
IsExtra S before (q ∷ qs) k = ((q.register.0 ≡ k) × IsStray S before k) ⊎ IsExtra S (Some q.register) qs k

-- there is the place of a write, and nothing is written
abbrev pub HasExtraWrite : List Line → ℕ → Option ℕ → Type 0
HasExtraWrite code i write = (write ≢ None) × Nowhere (WritesAt code i)

-- the row lists what is live in, in order, and has the place of a write where there is one
pub record IsListing (code : List Line) (i : ℕ) (places : List Place) (write : Option ℕ) : Type 0 where
  pub all : Nowhere (IsMissing code i places write)
  pub only : Nowhere (IsExtra (LiveIn code i) None places)
  pub no_more : HasExtraWrite code i write → ⊥

-- the place of a write of register k is x
abbrev pub IsWrittenTo : List Line → ℕ → Option ℕ → ℕ → ℕ → Type 0
IsWrittenTo code i write k x = WritesAt code i k × (write ≡ Some x)

-- register k has the place x, listed or by its write, and that is not below r
abbrev pub IsOut : List Line → ℕ → ℕ → List Place → Option ℕ → ℕ → ℕ → Type 0
IsOut code r i places write k x = (HasPlace places k x ⊎ IsWrittenTo code i write k x) × (r ≤ x)

-- such a register is the least; its listed place is named before that of its write
pub record IsFirstOut (code : List Line) (r i : ℕ) (places : List Place) (write : Option ℕ) (k x : ℕ) : Type 0 where
  pub out : IsOut code r i places write k x
  pub least : (j y : ℕ) → IsOut code r i places write j y → k ≤ j
  pub listed : HasPlace places k x ⊎ ((y : ℕ) → HasPlace places k y → y < r)

-- no place is out of range
abbrev pub IsInRange : List Line → ℕ → ℕ → List Place → Option ℕ → Type 0
IsInRange code r i places write = (k x : ℕ) → IsOut code r i places write k x → ⊥

-- two listed registers share the place x
abbrev pub Share : List Place → ℕ → ℕ → ℕ → Type 0
Share places k l x = (k < l) × HasPlace places k x × HasPlace places l x

-- two such registers, the first of them least, and then the second
pub record IsFirstPair (places : List Place) (k l x : ℕ) : Type 0 where
  pub share : Share places k l x
  pub least : (j m y : ℕ) → Share places j m y → (k < j) ⊎ ((k ≡ j) × (l ≤ m))

-- no two listed registers share a place
abbrev pub HaveOwnPlaces : List Place → Type 0
HaveOwnPlaces places = (k l x : ℕ) → Share places k l x → ⊥

-- survivor k has the place of the write
abbrev pub IsOverwritten : List Line → ℕ → List Place → Option ℕ → ℕ → ℕ → Type 0
IsOverwritten code i places write x k = Stays code i k × HasPlace places k x × (write ≡ Some x)

-- no survivor has the place of the write
abbrev pub IsWriteApart : List Line → ℕ → List Place → Option ℕ → Type 0
IsWriteApart code i places write = (x : ℕ) → Nowhere (IsOverwritten code i places write x)

-- register k crosses, and its place is not below p
abbrev pub IsExposed : List Line → ℕ → ℕ → List Place → ℕ → ℕ → Type 0
IsExposed code p i places k x = Crosses code i k × HasPlace places k x × (p ≤ x)

-- of a row's faults this is the first: by kind, then by register
abbrev pub IsFirstOfRow : List Line → ℕ → ℕ → ℕ → List Place → Option ℕ → PlanFault → Type 0
IsFirstOfRow code p r i places write (Sizes _ _) = ⊥
IsFirstOfRow code p r i places write (Length _ _) = ⊥
IsFirstOfRow code p r i places write (Missing at k) = (at ≡ i) × IsLeast (IsMissing code i places write) k.0
IsFirstOfRow code p r i places write (Extra at k) =
    (at ≡ i) × Nowhere (IsMissing code i places write) × IsLeast (IsExtra (LiveIn code i) None places) k.0
IsFirstOfRow code p r i places write (ExtraWrite at) =
    (at ≡ i) × Nowhere (IsMissing code i places write) × Nowhere (IsExtra (LiveIn code i) None places) × HasExtraWrite code i write
IsFirstOfRow code p r i places write (Range at k x) = (at ≡ i) × IsListing code i places write × IsFirstOut code r i places write k.0 x
IsFirstOfRow code p r i places write (Twice at k l x) =
    (at ≡ i) × IsListing code i places write × IsInRange code r i places write
    × (IsFirstPair places k.0 l.0 x
    ⊎ (HaveOwnPlaces places × IsLeast (IsOverwritten code i places write x) k.0 × WritesAt code i l.0))
IsFirstOfRow code p r i places write (Crossing at k x) =
    (at ≡ i) × IsListing code i places write × IsInRange code r i places write × HaveOwnPlaces places × IsWriteApart code i places write
    × IsExposed code p i places k.0 x × ((j y : ℕ) → IsExposed code p i places j y → k.0 ≤ j)

-- the sizes of a plan are in order
abbrev pub HasSizes : Plan → Type 0
HasSizes plan = (plan.p ≤ plan.r) × (plan.r ≤ MOST_FILE)

-- the rows before row i are valid, and the fault is the first of row i
abbrev pub IsFirstOfRows : List Line → Plan → PlanFault → Type 0
IsFirstOfRows code plan fault =
    (i : ℕ) × (row : PlanRow) × (slice_get plan.rows i ≡ Some row) × (i < length code)
    × ((j : ℕ) (earlier : PlanRow) → j < i → slice_get plan.rows j ≡ Some earlier → IsValidRow code plan.p plan.r j earlier)
    × IsFirstOfRow code plan.p plan.r i row.places row.write fault

-- of a plan's faults this is the first: of the sizes, of the number of rows, then by instruction
abbrev pub IsFirstFault : List Line → Plan → PlanFault → Type 0
IsFirstFault code plan (Sizes p r) = (p ≡ plan.p) × (r ≡ plan.r) × (HasSizes plan → ⊥)
IsFirstFault code plan (Length rows n) = HasSizes plan × (rows ≡ length plan.rows) × (n ≡ length code) × (rows ≢ n)
IsFirstFault code plan fault = HasSizes plan × (length plan.rows ≡ length code) × IsFirstOfRows code plan fault

-- k is at least the register that is given, if there is one
abbrev pub IsReached : Option VReg → ℕ → Type 0
IsReached None k = ⊥
IsReached (Some least) k = least.0 ≤ k

-- the lesser of what there is and a further register
pub record IsLesser (least : Option VReg) (register : VReg) (result : Option VReg) : Type 0 where
  pub old : (k : ℕ) → IsReached least k → IsReached result k
  pub new : IsReached result register.0
  pub one : (result ≡ Some register) ⊎ (result ≡ least)

-- what a check of a row's lists, of its places, of the row, of all rows and of the plan tells
abbrev pub IsListingChecked : List Line → ℕ → List Place → Option ℕ → Result Unit PlanFault → Type 0
IsListingChecked code i places write (Ok _) = IsListing code i places write
IsListingChecked code i places write (Err fault) = (p r : ℕ) → IsFirstOfRow code p r i places write fault

pub record IsPlacing (code : List Line) (p r i : ℕ) (places : List Place) (write : Option ℕ) : Type 0 where
  pub in_range : IsInRange code r i places write
  pub own : HaveOwnPlaces places
  pub apart : IsWriteApart code i places write
  pub private : (k x : ℕ) → IsExposed code p i places k x → ⊥

abbrev pub IsPlacingChecked : List Line → ℕ → ℕ → ℕ → List Place → Option ℕ → Result Unit PlanFault → Type 0
IsPlacingChecked code p r i places write (Ok _) = IsPlacing code p r i places write
IsPlacingChecked code p r i places write (Err fault) = IsFirstOfRow code p r i places write fault

-- what a look for the first place out of range tells, for the first pair, for the first survivor at the place of the write,
-- and for the first crossing register at a place that is not private
abbrev pub IsOutChecked : List Line → ℕ → ℕ → List Place → Option ℕ → Option Place → Type 0
IsOutChecked code r i places write None = IsInRange code r i places write
IsOutChecked code r i places write (Some q) = IsFirstOut code r i places write q.register.0 q.place

abbrev pub IsWrittenPlace : List Line → ℕ → Option ℕ → Option Place → Type 0
IsWrittenPlace code i write None = (k x : ℕ) → IsWrittenTo code i write k x → ⊥
IsWrittenPlace code i write (Some q) = IsWrittenTo code i write q.register.0 q.place

abbrev pub IsWriteOut : List Line → ℕ → ℕ → Option ℕ → Option Place → Type 0
IsWriteOut code r i write None = (k x : ℕ) → IsWrittenTo code i write k x → x < r
IsWriteOut code r i write (Some q) = IsWrittenTo code i write q.register.0 q.place × (r ≤ q.place)

abbrev pub IsPairChecked : List Place → Option (Place × Place) → Type 0
IsPairChecked places None = HaveOwnPlaces places
IsPairChecked places (Some pair) = IsFirstPair places pair.0.register.0 pair.1.register.0 pair.0.place

abbrev pub IsOverwriteChecked : List Line → ℕ → List Place → Option ℕ → Option (Place × VReg) → Type 0
IsOverwriteChecked code i places write None = IsWriteApart code i places write
IsOverwriteChecked code i places write (Some pair) =
    IsLeast (IsOverwritten code i places write pair.0.place) pair.0.register.0 × WritesAt code i pair.1.0

abbrev pub IsExposedChecked : List Line → ℕ → ℕ → List Place → Option Place → Type 0
IsExposedChecked code p i places None = (k x : ℕ) → IsExposed code p i places k x → ⊥
IsExposedChecked code p i places (Some q) =
    IsExposed code p i places q.register.0 q.place × ((j y : ℕ) → IsExposed code p i places j y → q.register.0 ≤ j)

abbrev pub IsRowChecked : List Line → ℕ → ℕ → ℕ → PlanRow → Result Unit PlanFault → Type 0
IsRowChecked code p r i row (Ok _) = IsValidRow code p r i row
IsRowChecked code p r i row (Err fault) = IsFirstOfRow code p r i row.places row.write fault

abbrev pub AreValidBelow : List Line → ℕ → ℕ → List PlanRow → ℕ → Type 0
AreValidBelow code p r rows n = (j : ℕ) (row : PlanRow) → j < n → slice_get rows j ≡ Some row → IsValidRow code p r j row

abbrev pub AreRowsChecked : List Line → ℕ → ℕ → List PlanRow → Result Unit PlanFault → Type 0
AreRowsChecked code p r rows (Ok _) = AreValidBelow code p r rows (length rows)
AreRowsChecked code p r rows (Err fault) =
    (i : ℕ) × (row : PlanRow) × (slice_get rows i ≡ Some row) × (i < length code) × AreValidBelow code p r rows i
    × IsFirstOfRow code p r i row.places row.write fault

abbrev pub IsPlanChecked : List Line → Plan → Result Unit PlanFault → Type 0
IsPlanChecked code plan (Ok _) = IsValidPlan code plan
IsPlanChecked code plan (Err fault) = IsFirstFault code plan fault
