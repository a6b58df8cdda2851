-- The walk: a plan that is made row by row, each from the row before.
use Rattle.std.specs.Prelude.{ℕ, zero, suc, ◌≡◌, ◌<◌, Bool, false, List, [], ◌∷◌, ◌++◌, map, replicate, Option, Some, None, is_some, length, slice_get, slice_index_or, slice_set, if◌then◌else◌}
use Rattle.std.specs.List.{Contains}
use Rattle.micro_isa.specs.declared.limits.TheConstants.{MOST_REGISTERS}
use Rattle.micro_isa.specs.declared.program.Line.{Line}
use Rattle.micro_isa.specs.declared.program.VReg.{VReg}
use Rattle.micro_isa.specs.Columns.{written_by, next_of}
use Rattle.liveness.specs.Liveness.{LiveIn}
use Rattle.liveness.specs.Sets.{Lists}
use Rattle.liveness.specs.Surviving.{Stays, Crosses}
use Rattle.plan.specs.declared.row.Place.{Place}
use Rattle.plan.specs.declared.row.PlanRow.{PlanRow}
use Rattle.plan.specs.declared.row.Plan.{Plan}

-- the place of each register by its number, where it has one
abbrev pub Table : Type 0
Table = List (Option ℕ)

-- no register has a place
abbrev pub nothing : Table
nothing = replicate MOST_REGISTERS None

abbrev pub place_at : Table → ℕ → Option ℕ
place_at table k = slice_index_or table k None

-- x is the least place that no register has
pub record IsLeastFree (table : Table) (x : ℕ) : Type 0 where
  pub free : (k : ℕ) → place_at table k ≡ Some x → ⊥
  pub least : (y : ℕ) → y < x → (k : ℕ) × (place_at table k ≡ Some y)

-- what a register may be given: a place or none
abbrev pub Choice : Type 1
Choice = Table → ℕ → Option ℕ → Type 0

-- its wish, where that is below p
abbrev pub WishBelow : ℕ → Table → Choice
WishBelow p wishes table k None = (x : ℕ) → place_at wishes k ≡ Some x → x < p → ⊥
WishBelow p wishes table k (Some x) = (place_at wishes k ≡ Some x) × (x < p)

-- its wish, where no register has that
abbrev pub WishFree : Table → Choice
WishFree wishes table k None = (x : ℕ) → place_at wishes k ≡ Some x → (j : ℕ) × (place_at table j ≡ Some x)
WishFree wishes table k (Some x) = (place_at wishes k ≡ Some x) × ((j : ℕ) → place_at table j ≡ Some x → ⊥)

-- the least place that no register has
abbrev pub LeastFree : Choice
LeastFree table k None = ⊥
LeastFree table k (Some x) = IsLeastFree table x

-- a register that has a place keeps it; another one is given what the rule chooses
abbrev pub StepsFrom : Choice → ℕ → Table → Table → Option ℕ → Type 0
StepsFrom choice k table next (Some _) = next ≡ table
StepsFrom choice k table next None = (o : Option ℕ) × choice table k o × (next ≡ slice_set table k o)

abbrev pub Steps : Choice → ℕ → Table → Table → Type 0
Steps choice k table next = StepsFrom choice k table next (place_at table k)

-- the registers of the list are given places by a rule, one after another
abbrev pub Stage : Choice → List ℕ → Table → Table → Type 0
Stage choice [] table last = table ≡ last
Stage choice (k ∷ ks) table last = (next : Table) × Steps choice k table next × Stage choice ks next last

-- what instruction i writes
abbrev pub written_in : Option Line → Option VReg
written_in None = None
written_in (Some line) = written_by line.instr

-- whether instruction i falls through to the next
abbrev pub falls_in : ℕ → Option Line → Bool
falls_in i None = false
falls_in i (Some line) = is_some (next_of line.instr i).fall

-- x is the least place that no register of the list has
pub record IsLeastApart (stay : List ℕ) (table : Table) (x : ℕ) : Type 0 where
  pub free : (k : ℕ) → Contains stay k → place_at table k ≡ Some x → ⊥
  pub least : (y : ℕ) → y < x → (k : ℕ) × Contains stay k × (place_at table k ≡ Some y)

-- the place of a write: the written register's own, if it has one in this row, else the least that no survivor has
abbrev pub IsPlaceFor : List ℕ → Table → Option ℕ → Option ℕ → Type 0
IsPlaceFor stay table (Some x) write = write ≡ Some x
IsPlaceFor stay table None write = (x : ℕ) × (write ≡ Some x) × IsLeastApart stay table x

abbrev pub IsWritePlace : List ℕ → Table → Option VReg → Option ℕ → Type 0
IsWritePlace stay table None write = write ≡ None
IsWritePlace stay table (Some d) write = IsPlaceFor stay table (place_at table d.0) write

-- the places after an instruction: the written register has the place of the write
abbrev pub put : Option VReg → Option ℕ → Table → Table
put None write table = table
put (Some d) write table = slice_set table d.0 write

abbrev pub place_or_zero : Option ℕ → ℕ
place_or_zero None = 0
place_or_zero (Some x) = x

-- the entries of a row: its registers with their places
abbrev pub entries : Table → List ℕ → List Place
entries table = map (λ k. record { register = record { 0 = k }; place = place_or_zero (place_at table k) })

-- the registers of a row get their places by four rules, one after another
pub record AreGiven (p : ℕ) (wishes : Table) (before cross : List ℕ) (table : Table) : Type 0 where
  pub wished : Table
  pub crossed : Table
  pub kept : Table
  pub first : Stage (WishBelow p wishes) cross nothing wished
  pub second : Stage LeastFree cross wished crossed
  pub third : Stage (WishFree wishes) before crossed kept
  pub fourth : Stage LeastFree before kept table

-- row i follows from the wishes, and leaves wishes for the next: none where it does not fall through to that
pub record Follows (code : List Line) (p i : ℕ) (wishes : Table) (row : PlanRow) (left : Table) : Type 0 where
  pub before : List ℕ
  pub cross : List ℕ
  pub stay : List ℕ
  pub table : Table
  pub is_before : Lists (LiveIn code i) before
  pub is_cross : Lists (Crosses code i) cross
  pub is_stay : Lists (Stays code i) stay
  pub given : AreGiven p wishes before cross table
  pub places : row.places ≡ entries table before
  pub write : IsWritePlace stay table (written_in (slice_get code i)) row.write
  pub leaves : left ≡ (if falls_in i (slice_get code i) then put (written_in (slice_get code i)) row.write table else nothing)

-- the rows of the first instructions, and the wishes for the next
abbrev pub Walked : List Line → ℕ → ℕ → List PlanRow → Table → Type 0
Walked code p zero rows wishes = (rows ≡ []) × (wishes ≡ nothing)
Walked code p (suc i) rows wishes =
    (earlier : List PlanRow) × (wished : Table) × (row : PlanRow) × Walked code p i earlier wished × Follows code p i wished row wishes × (rows ≡ earlier ++ row ∷ [])

-- the rows are those of all instructions
abbrev pub AreWalked : List Line → ℕ → List PlanRow → Type 0
AreWalked code p rows = (wishes : Table) × Walked code p (length code) rows wishes

-- the plan is the walk with these sizes
pub record IsWalk (code : List Line) (p r : ℕ) (plan : Plan) : Type 0 where
  pub private : plan.p ≡ p
  pub all : plan.r ≡ r
  pub rows : AreWalked code p plan.rows
