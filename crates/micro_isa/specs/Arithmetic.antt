-- What the operations on two words are called, and what operations, tests and divisions give on words of 32 bits.
use Rattle.std.specs.Prelude.{ℕ, zero, suc, ◌+◌, ◌-◌, ◌*◌, ◌/◌, ◌%◌, ◌^◌, ◌==◌, Bool, not, nat_lt, nat_le, bit_and, bit_or, bit_xor, Option, Some, None, if◌then◌else◌, codes}
use Rattle.micro_isa.specs.declared.arithmetic.AluOp.{AluOp}
use Rattle.micro_isa.specs.declared.arithmetic.AluOp.TheVariants as op
use Rattle.micro_isa.specs.declared.arithmetic.DivOp.{DivOp}
use Rattle.micro_isa.specs.declared.arithmetic.DivOp.TheVariants.{Quotient, Remainder}
use Rattle.micro_isa.specs.declared.arithmetic.Test.{Test}
use Rattle.micro_isa.specs.declared.arithmetic.Test.TheVariants as test
use Rattle.micro_isa.specs.Rows.{Row, called}

-- the rows of the operations in the table of instructions
abbrev pub alu_row : AluOp → Row
alu_row op.Add = called 3 (codes "add")
alu_row op.Sub = called 4 (codes "sub")
alu_row op.Mul = called 5 (codes "mul")
alu_row op.And = called 6 (codes "and")
alu_row op.Or = called 7 (codes "or")
alu_row op.Xor = called 8 (codes "xor")
alu_row op.Shl = called 9 (codes "shl")
alu_row op.Shr = called 10 (codes "shr")
alu_row op.Ltu = called 11 (codes "ltu")
alu_row op.Eq = called 12 (codes "eq")

-- the word that an operation gives
abbrev pub alu_of : AluOp → ℕ → ℕ → ℕ
alu_of op.Add x y = (x + y) % 2 ^ 32
alu_of op.Sub x y = (x + (2 ^ 32 - y)) % 2 ^ 32
alu_of op.Mul x y = (x * y) % 2 ^ 32
alu_of op.And x y = bit_and x y
alu_of op.Or x y = bit_or x y
alu_of op.Xor x y = bit_xor x y
alu_of op.Shl x y = (x * 2 ^ (y % 32)) % 2 ^ 32
alu_of op.Shr x y = x / 2 ^ (y % 32)
alu_of op.Ltu x y = if nat_lt x y then 1 else 0
alu_of op.Eq x y = if x == y then 1 else 0

-- whether a branch is taken
abbrev pub test_of : Test → ℕ → ℕ → Bool
test_of test.Eq x y = x == y
test_of test.Ne x y = not (x == y)
test_of test.Ltu x y = nat_lt x y
test_of test.Geu x y = nat_le y x

-- a quotient or a remainder; none where the divisor is 0
abbrev pub quotient_of : DivOp → ℕ → ℕ → Option ℕ
quotient_of op x zero = None
quotient_of Quotient x (suc y) = Some (x / suc y)
quotient_of Remainder x (suc y) = Some (x % suc y)
