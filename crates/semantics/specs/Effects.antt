-- What one instruction does, over registers of any kind.
use Rattle.std.specs.Prelude.{ℕ, ◌+◌, List, Option, Some, None, if◌then◌else◌}
use Rattle.micro_isa.specs.declared.instr.Instr.{Instr}
use Rattle.micro_isa.specs.declared.instr.Instr.TheVariants.{Li, Mov, Alu, Div, Ctx, Jmp, Branch, Load, Store, Yield, Recv, Send, Halt}
use Rattle.micro_isa.specs.Arithmetic.{alu_of, test_of, quotient_of}
use Rattle.semantics.specs.declared.SegmentExit.{SegmentExit}
use Rattle.semantics.specs.declared.SegmentExit.TheVariants as stop
use Rattle.semantics.specs.declared.Change.{Change}
use Rattle.semantics.specs.declared.Change.TheVariants.{Nothing, Register}
use Rattle.semantics.specs.declared.Effect.{Effect}

-- what a context keeps beside its registers: where it stands, and the register that the word of a completion goes to
pub record SavedContext (R : Type 0) : Type 0 where
  pub at : ℕ
  pub pending : Option R

-- a change, after which the next place comes
abbrev pub onward : {R : Type 0} → Change R → ℕ → Effect R
onward change next = record { change = change; next = next; stopped = None }

-- a stop, the register that the word of the completion goes to, if any, and the next place
abbrev pub stops : {R : Type 0} → SegmentExit → Option R → ℕ → Effect R
stops why pending next = record { change = Nothing; next = next; stopped = Some (record { why = why; pending = pending }) }

-- a division, which traps where there is no quotient and leaves the place
abbrev pub divided : {R : Type 0} → Option ℕ → R → ℕ → ℕ → Effect R
divided None to line at = stops (stop.Divide line) None at
divided (Some q) to line at = onward (Register to q) (at + 1)

-- the table: from the context's number, the source line and the instruction; it may read the registers, memory, and what
-- the context keeps
abbrev pub effect_of : {R : Type 0} → ℕ → ℕ → Instr R → (R → ℕ) → List ℕ → SavedContext R → Effect R
effect_of c line (Li to n) read memory k = onward (Register to n) (k.at + 1)
effect_of c line (Mov to from) read memory k = onward (Register to (read from)) (k.at + 1)
effect_of c line (Alu op to a b) read memory k = onward (Register to (alu_of op (read a) (read b))) (k.at + 1)
effect_of c line (Div op to a b) read memory k = divided (quotient_of op (read a) (read b)) to line k.at
effect_of c line (Ctx to) read memory k = onward (Register to c) (k.at + 1)
effect_of c line (Jmp target) read memory k = onward Nothing target
effect_of c line (Branch test a b target) read memory k =
    onward Nothing (if test_of test (read a) (read b) then target else k.at + 1)
effect_of c line (Load to address) read memory k = stops (stop.Load (read address) line) (Some to) (k.at + 1)
effect_of c line (Store address from) read memory k = stops (stop.Store (read address) (read from) line) None (k.at + 1)
effect_of c line Yield read memory k = stops stop.Yield None (k.at + 1)
effect_of c line (Recv to channel) read memory k = stops (stop.Recv channel) (Some to) (k.at + 1)
effect_of c line (Send channel from) read memory k = stops (stop.Send channel (read from)) None (k.at + 1)
effect_of c line Halt read memory k = stops stop.Halt None k.at
