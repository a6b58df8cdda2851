-- The switching instructions of a program.
use Rattle.std.specs.Prelude.{ℕ, ◌<◌, ◌↔◌, List, length, slice_index}
use Rattle.std.specs.List.{Contains}
use Rattle.micro_isa.specs.declared.program.Line.{Line}
use Rattle.liveness.specs.Surviving.{SwitchesAt}

-- the list has exactly the switching instructions, in order
pub record AreBoundaries (code : List Line) (list : List ℕ) : Type 0 where
  pub each : (i : ℕ) → Contains list i ↔ SwitchesAt code i
  pub rising : (a b : ℕ) → a < b → b < length list → slice_index list a < slice_index list b
