-- The engine's state, and the configuration of a run that it stands for.
use Rattle.std.specs.Prelude.{◌≡◌, ◌≤◌, ℕ, List, length, Bool, true, false, ◌||◌, Option, Some, None, slice_get}
use Rattle.micro_isa.specs.Formed.{lies_in, writes_within, IsFormedImage}
use Rattle.micro_isa.specs.declared.image.PReg.{PReg}
use Rattle.micro_isa.specs.declared.image.Code.{Code}
use Rattle.micro_isa.specs.declared.image.Image.{Image}
use Rattle.semantics.specs.Core.{Core}
use Rattle.semantics.specs.Events.{Config}
use Rattle.semantics.specs.Effects.{SavedContext}
use Rattle.semantics.specs.Machine.{Machine}
use Rattle.run_state.specs.declared.stretch.ContextPlace.{ContextPlace}

-- the image that is run, the core of the run, the register file, and where the contexts stand
pub record EngineState : Type 0 where
  pub image : Image
  pub core : Core
  pub file : List ℕ
  pub contexts : List (ContextPlace PReg)

abbrev pub kept_of : Option (ContextPlace PReg) → SavedContext PReg
kept_of None = record { at = 0; pending = None }
kept_of (Some k) = record { at = k.at; pending = k.pending }

-- the configuration of a machine run that an engine stands for
abbrev pub config_of : EngineState → Config Machine
config_of e = record {
  core = e.core;
  state = record { file = e.file; contexts = λ c. kept_of (slice_get e.contexts c) };
}

-- a register lies in the private range of this code
abbrev pub is_private : Option Code → ℕ → Bool
is_private None q = false
is_private (Some code) q = lies_in code.private q

-- the registers that a context may write: those of its private range, and the shared ones
abbrev pub may_write : Image → ℕ → ℕ → Bool
may_write image c q = is_private (slice_get image.contexts c) q || lies_in image.shared q

-- every register that this context may not write is as it was
abbrev pub LeavesOthers : Image → ℕ → List ℕ → List ℕ → Type 0
LeavesOthers image c before after = (q : ℕ) → may_write image c q ≡ false → slice_get after q ≡ slice_get before q

-- a context stands at one of its words, or just after the last, and its completion goes to a register that it may write
pub record IsContext (image : Image) (code : Code) (k : ContextPlace PReg) : Type 0 where
  pub within : k.at ≤ length code.words
  pub pending : writes_within code.private image.shared k.pending ≡ true

-- the image is formed, and there is a place and a phase for each of its contexts
pub record IsSound (image : Image) (core : Core) (contexts : List (ContextPlace PReg)) : Type 0 where
  pub formed : IsFormedImage image
  pub as_many : length contexts ≡ length core.phases
  pub as_many_words : length image.contexts ≡ length core.phases
  pub each : (c : ℕ) (code : Code) (k : ContextPlace PReg) → slice_get image.contexts c ≡ Some code → slice_get contexts c ≡ Some k → IsContext image code k
