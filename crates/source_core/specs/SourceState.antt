-- The interpreter's state, and the configuration of a run that it stands for.
use Rattle.std.specs.Prelude.{◌≡◌, ◌≤◌, ℕ, Bool, List, [], length, nat_lt, replicate, Option, Some, None, slice_get}
use Rattle.micro_isa.specs.declared.limits.TheConstants.{MOST_CONTEXTS}
use Rattle.micro_isa.specs.declared.program.VReg.{VReg}
use Rattle.micro_isa.specs.declared.program.Line.{Line}
use Rattle.micro_isa.specs.declared.program.Program.{Program}
use Rattle.micro_isa.specs.declared.program.Bundle.{Bundle}
use Rattle.semantics.specs.Core.{Core}
use Rattle.semantics.specs.Events.{Config}
use Rattle.semantics.specs.Source.{SourceContext, Contexts, numbered_line}
use Rattle.source_core.specs.declared.context.ContextState.{ContextState}
use Rattle.run_state.specs.Running.{context_at, values_of, CanRun, IsPlaced}

-- the bundle that is run, the core of the run, and the contexts with their registers
pub record SourceState : Type 0 where
  pub bundle : Bundle
  pub core : Core
  pub contexts : List ContextState

abbrev pub seen_context : ContextState → SourceContext
seen_context x = context_at x.place.at (values_of x.registers) x.place.pending

-- a context at its opening: at its first instruction, and each register 0
abbrev pub start_of : Program → ContextState
start_of p = record { place = record { at = 0; pending = None }; registers = replicate (length p.registers) 0 }

abbrev pub context_of : Option ContextState → SourceContext
context_of None = context_at 0 (values_of []) None
context_of (Some x) = seen_context x

-- the configuration of a source run that an interpreter stands for
abbrev pub config_of : SourceState → Config Contexts
config_of s = record { core = s.core; state = λ c. context_of (slice_get s.contexts c) }

-- which registers there are, of so many
abbrev pub is_there : ℕ → VReg → Bool
is_there registers r = nat_lt r.0 registers

-- a context's instructions can run on its registers, it stands at one of them, and the register that waits is there
pub record IsContext (code : List Line) (x : ContextState) : Type 0 where
  pub runs : CanRun numbered_line (is_there (length x.registers)) code
  pub placed : IsPlaced (is_there (length x.registers)) (length code) x.place

pub record IsSound (bundle : Bundle) (core : Core) (contexts : List ContextState) : Type 0 where
  pub few : length contexts ≤ MOST_CONTEXTS
  pub as_many : length contexts ≡ length core.phases
  pub as_many_programs : length bundle.programs ≡ length core.phases
  pub each : (c : ℕ) (p : Program) (x : ContextState) → slice_get bundle.programs c ≡ Some p → slice_get contexts c ≡ Some x → IsContext p.code x
