-- The pressures of a program, and the need of several.
use Rattle.std.specs.Prelude.{ℕ, ◌+◌, ◌-◌, ◌<◌, ◌≤◌, max, map, List, [], ◌∷◌, length}
use Rattle.std.specs.List.{sum_by}
use Rattle.micro_isa.specs.declared.limits.TheConstants.{MOST_REGISTERS}
use Rattle.micro_isa.specs.declared.program.Line.{Line}
use Rattle.flow_graph.specs.Paths.{IsClosedCode}
use Rattle.liveness.specs.declared.live.Live.{Live}
use Rattle.liveness.specs.Lives.{IsLiveOf}
use Rattle.liveness.specs.Pressures.{IsPrivatePressure, IsTotalPressure}
use Rattle.pressure.specs.declared.pressure_of.Pressure.{Pressure}

-- both pressures of this code
pub record IsPressureOf (code : List Line) (pressure : Pressure) : Type 0 where
  pub private : IsPrivatePressure code pressure.private
  pub all : IsTotalPressure code pressure.all

-- the greatest of the numbers, or 0
abbrev pub greatest : List ℕ → ℕ
greatest [] = 0
greatest (x ∷ xs) = max x (greatest xs)

-- the sum of the private pressures, and the greatest number of registers that one context needs beside its own
abbrev pub need_of : List Pressure → ℕ
need_of parts = sum_by (λ part. part.private) parts + greatest (map (λ part. part.all - part.private) parts)

-- closed code with its live registers, and an instruction of it
pub record IsKnownAt (code : List Line) (live : Live) (i : ℕ) : Type 0 where
  pub closed : IsClosedCode code
  pub is_live : IsLiveOf code live
  pub here : i < length code

-- pressures that a context can have
pub record IsPart (part : Pressure) : Type 0 where
  pub order : part.private ≤ part.all
  pub few : part.all ≤ MOST_REGISTERS
