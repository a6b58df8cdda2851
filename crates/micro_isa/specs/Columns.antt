-- The columns of the instruction table, over registers of any kind.
use Rattle.std.specs.Prelude.{ℕ, ◌+◌, Bool, List, [], Option, Some, None}
use Rattle.std.specs.List.{cons_option}
use Rattle.micro_isa.specs.declared.instr.Instr.{Instr}
use Rattle.micro_isa.specs.declared.instr.Instr.TheVariants as instr
use Rattle.micro_isa.specs.declared.instr.Reads.{Reads}
use Rattle.micro_isa.specs.declared.instr.Next.{Next}
use Rattle.micro_isa.specs.declared.operands.Extra.{Extra}
use Rattle.micro_isa.specs.declared.operands.Extra.TheVariants.{Target}
use Rattle.micro_isa.specs.declared.operands.Operands.{Operands}
use Rattle.micro_isa.specs.Operands.{operation_of, operands_of}
pub use Rattle.micro_isa.specs.Table.{ends, switching}

-- the registers read, in the order of the text
abbrev pub reads_in : {R : Type 0} → Instr R → Reads R
reads_in i = record { first = (operands_of i).a; second = (operands_of i).b }

-- the register written
abbrev pub written_by : {R : Type 0} → Instr R → Option R
written_by i = (operands_of i).to

-- the registers, in the order of the text
abbrev pub registers : {R N K : Type 0} → Operands R N K → List R
registers x = cons_option x.to (cons_option x.a (cons_option x.b []))

abbrev pub registers_in : {R : Type 0} → Instr R → List R
registers_in i = registers (operands_of i)

abbrev pub target_in : {N K : Type 0} → Extra N K → Option N
target_in (Target target) = Some target
target_in _ = None

-- where an instruction may jump
abbrev pub target_of : {R : Type 0} → Instr R → Option ℕ
target_of i = target_in (operands_of i).extra

abbrev pub never_falls : {R : Type 0} → Instr R → Bool
never_falls i = ends (operation_of i)

-- whether another context may run after it
abbrev pub switches_at : {R : Type 0} → Instr R → Bool
switches_at i = switching (operation_of i)

-- what may follow the instruction at this place
abbrev pub next_of : {R : Type 0} → Instr R → ℕ → Next
next_of instr.Halt at = record { fall = None; jump = None }
next_of (instr.Jmp target) at = record { fall = None; jump = Some target }
next_of (instr.Branch test a b target) at = record { fall = Some (at + 1); jump = Some target }
next_of _ at = record { fall = Some (at + 1); jump = None }
