-- What is told of each program of a bundle.
use Rattle.std.specs.Prelude.{ℕ, ◌≡◌, ◌<◌, ◌↔◌, Bool, true, false, List, [], ◌∷◌, Option, Some, length, slice_get, slice_index_or}
use Rattle.std.specs.List.{AllZip}
use Rattle.micro_isa.specs.declared.program.Line.{Line}
use Rattle.micro_isa.specs.declared.program.Program.{Program}
use Rattle.flow_graph.specs.Paths.{Reaches}
use Rattle.pressure.specs.Regions.{IsNumbered}
use Rattle.pressure.specs.Pressures.{IsPressureOf}
use Rattle.report_check.specs.declared.facts.Facts.{Facts}
use Rattle.micro_kit.specs.Text.{in_order}

-- the code has so many regions
abbrev pub HasRegions : List Line → ℕ → Type 0
HasRegions code n = (numbers : List ℕ) × IsNumbered code numbers n

-- the marks stand at the instructions that a path from instruction 0 reaches
pub record AreReached (code : List Line) (marks : List Bool) : Type 0 where
  pub one_each : length marks ≡ length code
  pub exact : (i : ℕ) → i < length code → (slice_index_or marks i false ≡ true) ↔ Reaches code 0 i

-- the line of an instruction that has no mark
abbrev pub lost_line : Bool → Option Line → List ℕ
lost_line false (Some line) = line.line ∷ []
lost_line _ _ = []

-- the lines of the instructions that have no mark, in the order of the instructions
abbrev pub lost_lines : List Line → List Bool → List ℕ
lost_lines code marks = in_order (length code) (λ i. lost_line (slice_index_or marks i false) (slice_get code i))

-- these are the lines of the unreachable instructions, in order
abbrev pub AreUnreachable : List Line → List ℕ → Type 0
AreUnreachable code lines = (marks : List Bool) × AreReached code marks × (lines ≡ lost_lines code marks)

-- the facts are those of this program
pub record AreFactsOf (program : Program) (facts : Facts) : Type 0 where
  pub pressure : IsPressureOf program.code facts.pressure
  pub regions : HasRegions program.code facts.regions
  pub unreachable : AreUnreachable program.code facts.unreachable

-- the facts are those of these programs, one after another
abbrev pub AreAllFacts : List Program → List Facts → Type 0
AreAllFacts programs all = AllZip AreFactsOf programs all
