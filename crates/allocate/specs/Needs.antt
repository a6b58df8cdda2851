-- How many registers a bundle needs.
use Rattle.std.specs.Prelude.{ℕ, ◌≡◌, List}
use Rattle.std.specs.List.{AllZip}
use Rattle.micro_isa.specs.declared.program.Program.{Program}
use Rattle.micro_isa.specs.declared.program.Bundle.{Bundle}
use Rattle.liveness.specs.declared.live.Live.{Live}
use Rattle.liveness.specs.Lives.{IsLiveOf}
use Rattle.pressure.specs.declared.pressure_of.Pressure.{Pressure}
use Rattle.pressure.specs.Pressures.{IsPressureOf, need_of}

-- the live registers of each program
abbrev pub AreLives : List Program → List Live → Type 0
AreLives = AllZip (λ p live. IsLiveOf p.code live)

-- the pressures of each program
abbrev pub ArePressures : List Program → List Pressure → Type 0
ArePressures = AllZip (λ p part. IsPressureOf p.code part)

-- the contexts of the bundle need so many registers together
pub record HasNeed (b : Bundle) (need : ℕ) : Type 0 where
  pub parts : List Pressure
  pub pressures : ArePressures b.programs parts
  pub number : need ≡ need_of parts

-- this is how many, and no other number is
pub record IsNeed (b : Bundle) (need : ℕ) : Type 0 where
  pub has : HasNeed b need
  pub only : (n : ℕ) → HasNeed b n → n ≡ need
