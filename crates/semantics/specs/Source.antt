-- What a bundle means: each context has registers of its own, as many as it names, all 0 at first.
use Rattle.std.specs.Prelude.{ℕ, List, [], Option, Some, None, true, slice_get, ◌==◌, if◌then◌else◌, length}
use Rattle.micro_isa.specs.declared.program.VReg.{VReg}
use Rattle.micro_isa.specs.declared.program.Line.{Line}
use Rattle.micro_isa.specs.declared.program.Program.{Program}
use Rattle.micro_isa.specs.declared.program.Bundle.{Bundle}
use Rattle.semantics.specs.Core.{opening_core}
use Rattle.semantics.specs.Events.{Semantics, Config}
use Rattle.semantics.specs.Stretches.{Numbered, Kind, ActiveContext, stretch_in, stretch_of}

-- registers by their numbers; an absent one is 0
abbrev pub Registers : Type 0
Registers = VReg → ℕ

-- one register changed
abbrev pub put : Registers → VReg → ℕ → Registers
put values r v q = if q.0 == r.0 then v else values q

-- each instruction of a source is counted
abbrev pub numbered_line : Line → Numbered VReg
numbered_line l = record { instr = l.instr; line = l.line; counted = true }

abbrev pub source_kind : Kind Line VReg Registers
source_kind = record { numbered = numbered_line; read = λ values r. values r; write = put }

abbrev pub SourceContext : Type 0
SourceContext = ActiveContext VReg Registers

-- the contexts, by their numbers
abbrev pub Contexts : Type 0
Contexts = ℕ → SourceContext

abbrev pub with_context : Contexts → ℕ → SourceContext → Contexts
with_context xs c x d = if d == c then x else xs d

abbrev pub code_in : Option Program → List Line
code_in None = []
code_in (Some p) = p.code

abbrev pub code_of : Bundle → ℕ → List Line
code_of b c = code_in (slice_get b.programs c)

-- a stretch of one context of a bundle; the others stay as they are
abbrev pub source_semantics : Bundle → Semantics Contexts
source_semantics b xs c given = stretch_in (with_context xs c) (stretch_of source_kind c (code_of b c) given (xs c))

-- the opening of a bundle under a bound
abbrev pub source_open : Bundle → ℕ → Config Contexts
source_open b bound = record {
  core = opening_core b.setting (length b.programs) bound;
  state = λ c. record { kept = record { at = 0; pending = None }; values = λ r. 0 };
}
