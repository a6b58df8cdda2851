-- The table of the instruction set.
use Rattle.std.specs.Prelude.{ℕ, ◌==◌, Bool, true, false, List, [], ◌∷◌, Option, codes}
use Rattle.std.specs.List.{find}
use Rattle.std.specs.Str.{bytes_eq}
use Rattle.micro_isa.specs.declared.arithmetic.DivOp.TheVariants.{Quotient, Remainder}
use Rattle.micro_isa.specs.declared.arithmetic.Test.TheVariants as test
use Rattle.micro_isa.specs.declared.operation.Operation.{Operation}
use Rattle.micro_isa.specs.declared.operation.Operation.TheVariants.{Li, Mov, Alu, Div, Ctx, Jmp, Branch, Load, Store, Yield, Recv, Send, Halt}
use Rattle.micro_isa.specs.declared.operation.Role.{Role}
use Rattle.micro_isa.specs.declared.operation.Role.TheVariants.{To, A, B, Number, Target, Receive}
use Rattle.micro_isa.specs.declared.operation.Role.TheVariants as role
use Rattle.micro_isa.specs.declared.operation.TheConstants.{OPERATIONS}
use Rattle.micro_isa.specs.Rows.{Row, called}
use Rattle.micro_isa.specs.Arithmetic.{alu_row}

abbrev pub row_of : Operation → Row
row_of Li = called 1 (codes "li")
row_of Mov = called 2 (codes "mov")
row_of (Alu op) = alu_row op
row_of (Div Quotient) = called 13 (codes "div")
row_of (Div Remainder) = called 14 (codes "rem")
row_of Ctx = called 15 (codes "ctx")
row_of Jmp = called 16 (codes "jmp")
row_of (Branch test.Eq) = called 17 (codes "beq")
row_of (Branch test.Ne) = called 18 (codes "bne")
row_of (Branch test.Ltu) = called 19 (codes "bltu")
row_of (Branch test.Geu) = called 20 (codes "bgeu")
row_of Load = called 21 (codes "load")
row_of Store = called 22 (codes "store")
row_of Yield = called 23 (codes "yield")
row_of Recv = called 24 (codes "recv")
row_of Send = called 25 (codes "send")
row_of Halt = called 26 (codes "halt")

-- the operands, in the order of the text
abbrev pub roles_of : Operation → List Role
roles_of Li = To ∷ Number ∷ []
roles_of Mov = To ∷ A ∷ []
roles_of (Alu op) = To ∷ A ∷ B ∷ []
roles_of (Div op) = To ∷ A ∷ B ∷ []
roles_of Ctx = To ∷ []
roles_of Jmp = Target ∷ []
roles_of (Branch test) = A ∷ B ∷ Target ∷ []
roles_of Load = To ∷ A ∷ []
roles_of Store = A ∷ B ∷ []
roles_of Yield = []
roles_of Recv = To ∷ Receive ∷ []
roles_of Send = role.Send ∷ A ∷ []
roles_of Halt = []

-- what stands after it is not reached in order
abbrev pub ends : Operation → Bool
ends Jmp = true
ends Halt = true
ends _ = false

-- another context may run after it
abbrev pub switching : Operation → Bool
switching Load = true
switching Store = true
switching Yield = true
switching Recv = true
switching Send = true
switching _ = false

abbrev pub operations : List Operation
operations = OPERATIONS

-- the operation of a mnemonic
abbrev pub named : List ℕ → Option Operation
named word = find (λ o. bytes_eq (row_of o).mnemonic word) operations

-- the operation of an opcode
abbrev pub coded : ℕ → Option Operation
coded opcode = find (λ o. (row_of o).opcode == opcode) operations
