-- The shared interpreter's own values, in the terms of the meanings, over code and registers of any kind.
use Rattle.std.specs.Prelude.{◌≡◌, ℕ, ◌<◌, ◌≤◌, List, Bool, true, false, Option, length, slice_index, IfSome}
use Rattle.micro_isa.specs.declared.instr.Instr.{Instr}
use Rattle.micro_isa.specs.Columns.{written_by, target_of}
use Rattle.micro_isa.specs.Formed.{Each}
use Rattle.semantics.specs.declared.Change.{Change}
use Rattle.semantics.specs.declared.Change.TheVariants.{Nothing, Register}
use Rattle.semantics.specs.declared.Effect.{Effect}
use Rattle.semantics.specs.Events.{Stretch}
use Rattle.semantics.specs.Source.{Registers}
use Rattle.semantics.specs.Stretches.{Numbered, Kind, ActiveContext}
use Rattle.run_state.specs.declared.stretch.ContextPlace.{ContextPlace}
use Rattle.run_state.specs.declared.stretch.Ended.{Ended}

-- the kind of code whose lines say this, and whose registers are read and written so
abbrev pub kind_by : {L R V : Type 0} → (L → Numbered R) → (V → R → ℕ) → (V → R → ℕ → V) → Kind L R V
kind_by numbered read write = record { numbered = numbered; read = read; write = write }

-- a line that is nothing but its instruction
abbrev pub same_line : {R : Type 0} → Numbered R → Numbered R
same_line i = i

-- a context that stands at this place with these values
abbrev pub context_at : {R V : Type 0} → ℕ → V → Option R → ActiveContext R V
context_at at values pending = record { kept = record { at = at; pending = pending }; values = values }

-- the registers of a source context that a list of values stands for; one past its end is absent, and 0
abbrev pub values_of : List ℕ → Registers
values_of values r = slice_index values r.0

abbrev pub written : {R V : Type 0} → (V → R → ℕ → V) → V → Change R → V
written write values Nothing = values
written write values (Register to value) = write values to value

-- what follows a jump, where there was one
abbrev pub reached : {X : Type 0} → (X → X) → Bool → X → X
reached jump true x = jump x
reached jump false x = x

abbrev pub stretch_seen : {R V : Type 0} → V → Ended R → Stretch (ActiveContext R V)
stretch_seen values e = record { state = context_at e.place.at values e.place.pending; steps = e.steps; why = e.why }

-- the register that an instruction writes, now or at its completion, may be written, and its target is a line
pub record CanRunOne {R : Type 0} (holds : R → Bool) (size : ℕ) (i : Instr R) : Type 0 where
  pub written : IfSome (written_by i) (λ r. holds r ≡ true)
  pub target : IfSome (target_of i) (λ target. target < size)

-- code whose lines are few, and each of them can run
pub record CanRun {L R : Type 0} (numbered : L → Numbered R) (holds : R → Bool) (code : List L) : Type 0 where
  pub few : length code < 4294967295
  pub each : Each code (λ l. CanRunOne holds (length code) (numbered l).instr)

-- a place within the code, whose pending register may be written
pub record IsPlaced {R : Type 0} (holds : R → Bool) (size : ℕ) (place : ContextPlace R) : Type 0 where
  pub within : place.at ≤ size
  pub pending : IfSome place.pending (λ r. holds r ≡ true)

abbrev pub ChangesWithin : {R : Type 0} → (R → Bool) → Change R → Type 0
ChangesWithin holds Nothing = Unit {0}
ChangesWithin holds (Register to value) = holds to ≡ true

-- what an effect writes, now or at its completion, may be written, and the next place is a line, or just after the last
pub record StaysWithin {R : Type 0} (holds : R → Bool) (size : ℕ) (e : Effect R) : Type 0 where
  pub change : ChangesWithin holds e.change
  pub next : e.next ≤ size
  pub pending : IfSome e.stopped (λ s. IfSome s.pending (λ r. holds r ≡ true))
