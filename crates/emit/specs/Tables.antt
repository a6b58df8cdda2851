-- Places by the numbers of registers.
use Rattle.std.specs.Prelude.{ℕ, ◌≡◌, ◌<◌, ◌==◌, List, Option, Some, None, slice_get, slice_index, if◌then◌else◌}
use Rattle.std.specs.List.{Contains}
use Rattle.micro_isa.specs.declared.limits.TheConstants.{MOST_REGISTERS}
use Rattle.micro_isa.specs.declared.program.VReg.{VReg}
use Rattle.micro_isa.specs.declared.program.Line.{Line}
use Rattle.liveness.specs.Liveness.{LiveOut}
use Rattle.plan.specs.declared.row.Place.{Place}
use Rattle.plan.specs.declared.row.Plan.{Plan}
use Rattle.plan.specs.ValidPlans.{registers_of, place_in}
use Rattle.emitted.specs.Edges.{row_at, written_in, place_after}

-- the registers of the list have room in a table
pub record AreSmall (places : List Place) : Type 0 where
  pub each : (i : ℕ) (q : Place) → slice_get places i ≡ Some q → q.register.0 < MOST_REGISTERS

-- the table has the place of each listed register
pub record HasPlaces (places : List Place) (table : List ℕ) : Type 0 where
  pub each : (k : ℕ) → Contains (registers_of places) k → slice_index table k ≡ place_in places k

-- the table has the place after instruction i of each register that is live then
pub record AreAfter (code : List Line) (plan : Plan) (i : ℕ) (table : List ℕ) : Type 0 where
  pub each : (k : ℕ) → LiveOut code i k → slice_index table k ≡ place_after (row_at plan i) (written_in (slice_get code i)) k

-- the places, but for that of one register, if there is one
abbrev pub place_with : Option VReg → ℕ → (ℕ → ℕ) → ℕ → ℕ
place_with None place places k = places k
place_with (Some d) place places k = if k == d.0 then place else places k
