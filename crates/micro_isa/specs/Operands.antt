-- An instruction as its operation and its operands, and back.
use Rattle.std.specs.Prelude.{ℕ, Option, Some, None, option_map}
use Rattle.micro_isa.specs.declared.instr.Instr.{Instr}
use Rattle.micro_isa.specs.declared.instr.Instr.TheVariants as instr
use Rattle.micro_isa.specs.declared.operation.Operation.{Operation}
use Rattle.micro_isa.specs.declared.operation.Operation.TheVariants.{Li, Mov, Alu, Div, Ctx, Jmp, Branch, Load, Store, Yield, Recv, Send, Halt}
use Rattle.micro_isa.specs.declared.operands.Extra.{Extra}
use Rattle.micro_isa.specs.declared.operands.Extra.TheVariants.{Nothing, Number, Target, Receive}
use Rattle.micro_isa.specs.declared.operands.Extra.TheVariants as extra
use Rattle.micro_isa.specs.declared.operands.Operands.{Operands}

abbrev pub operation_of : {R : Type 0} → Instr R → Operation
operation_of (instr.Li to n) = Li
operation_of (instr.Mov to from) = Mov
operation_of (instr.Alu op to a b) = Alu op
operation_of (instr.Div op to a b) = Div op
operation_of (instr.Ctx to) = Ctx
operation_of (instr.Jmp target) = Jmp
operation_of (instr.Branch test a b target) = Branch test
operation_of (instr.Load to address) = Load
operation_of (instr.Store address from) = Store
operation_of instr.Yield = Yield
operation_of (instr.Recv to channel) = Recv
operation_of (instr.Send channel from) = Send
operation_of instr.Halt = Halt

abbrev pub with : {R N K : Type 0} → Option R → Option R → Option R → Extra N K → Operands R N K
with to a b extra = record { to = to; a = a; b = b; extra = extra }

-- the register that is written, those that are read, and what is no register
abbrev pub operands_of : {R : Type 0} → Instr R → Operands R ℕ ℕ
operands_of (instr.Li to n) = with (Some to) None None (Number n)
operands_of (instr.Mov to from) = with (Some to) (Some from) None Nothing
operands_of (instr.Alu op to a b) = with (Some to) (Some a) (Some b) Nothing
operands_of (instr.Div op to a b) = with (Some to) (Some a) (Some b) Nothing
operands_of (instr.Ctx to) = with (Some to) None None Nothing
operands_of (instr.Jmp target) = with None None None (Target target)
operands_of (instr.Branch test a b target) = with None (Some a) (Some b) (Target target)
operands_of (instr.Load to address) = with (Some to) (Some address) None Nothing
operands_of (instr.Store address from) = with None (Some address) (Some from) Nothing
operands_of instr.Yield = with None None None Nothing
operands_of (instr.Recv to channel) = with (Some to) None None (Receive channel)
operands_of (instr.Send channel from) = with None (Some from) None (extra.Send channel)
operands_of instr.Halt = with None None None Nothing

-- the instruction of an operation and its operands
abbrev pub made : {R : Type 0} → Operation → Option R → Option R → Option R → Extra ℕ ℕ → Option (Instr R)
made Li (Some to) None None (Number n) = Some (instr.Li to n)
made Mov (Some to) (Some from) None Nothing = Some (instr.Mov to from)
made (Alu op) (Some to) (Some a) (Some b) Nothing = Some (instr.Alu op to a b)
made (Div op) (Some to) (Some a) (Some b) Nothing = Some (instr.Div op to a b)
made Ctx (Some to) None None Nothing = Some (instr.Ctx to)
made Jmp None None None (Target target) = Some (instr.Jmp target)
made (Branch test) None (Some a) (Some b) (Target target) = Some (instr.Branch test a b target)
made Load (Some to) (Some address) None Nothing = Some (instr.Load to address)
made Store None (Some address) (Some from) Nothing = Some (instr.Store address from)
made Yield None None None Nothing = Some instr.Yield
made Recv (Some to) None None (Receive channel) = Some (instr.Recv to channel)
made Send None (Some from) None (extra.Send channel) = Some (instr.Send channel from)
made Halt None None None Nothing = Some instr.Halt
made _ _ _ _ _ = None

abbrev pub instr_of : {R : Type 0} → Operation → Operands R ℕ ℕ → Option (Instr R)
instr_of operation x = made operation x.to x.a x.b x.extra

-- ---- an instruction over other registers: from where it reads, where it writes and where it jumps

abbrev pub retargeted : {K : Type 0} → (ℕ → ℕ) → Extra ℕ K → Extra ℕ K
retargeted t (Target target) = Target (t target)
retargeted t extra = extra

abbrev pub renamed : {R S : Type 0} → (R → S) → S → (ℕ → ℕ) → Operands R ℕ ℕ → Operands S ℕ ℕ
renamed f g t x = with (option_map (λ r. g) x.to) (option_map f x.a) (option_map f x.b) (retargeted t x.extra)

-- of operands that stand where an instruction's stand there is an instruction
abbrev pub or_halt : {R : Type 0} → Option (Instr R) → Instr R
or_halt None = instr.Halt
or_halt (Some i) = i

abbrev pub reword : {R S : Type 0} → (R → S) → S → (ℕ → ℕ) → Instr R → Instr S
reword f g t i = or_halt (instr_of (operation_of i) (renamed f g t (operands_of i)))
