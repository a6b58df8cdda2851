-- The code of a generated context, over registers of given numbers.
use Rattle.std.specs.Prelude.{ℕ, zero, suc, ◌+◌, ◌==◌, nat_lt, List, [], ◌∷◌, ◌++◌, if◌then◌else◌, slice_index, slice_index_or}
use Rattle.micro_isa.specs.declared.arithmetic.AluOp.{AluOp}
use Rattle.micro_isa.specs.declared.arithmetic.AluOp.TheVariants as op
use Rattle.micro_isa.specs.declared.arithmetic.Test.TheVariants as test
use Rattle.micro_isa.specs.declared.instr.Instr.{Instr}
use Rattle.micro_isa.specs.declared.instr.Instr.TheVariants as instr
use Rattle.micro_isa.specs.declared.program.VReg.{VReg}
use Rattle.soak_gen.specs.declared.draft.Draft.{Draft}
use Rattle.soak_gen.specs.Draws.{draw, after}

-- the names of registers by their places: n, k, z, and from 3 on r0 to r8
abbrev pub count : ℕ
count = 0

abbrev pub one : ℕ
one = 1

abbrev pub nought : ℕ
nought = 2

abbrev pub value : ℕ → ℕ
value r = 3 + r

-- the register of a name, where this is the list of the names' numbers
abbrev pub register : List ℕ → ℕ → VReg
register numbers name = record { 0 = slice_index numbers name }

abbrev pub operations : List AluOp
operations = op.Add ∷ op.Sub ∷ op.Mul ∷ op.And ∷ op.Or ∷ op.Xor ∷ op.Shl ∷ op.Shr ∷ op.Ltu ∷ op.Eq ∷ []

abbrev pub operation : ℕ → AluOp
operation o = slice_index_or operations o op.Add

-- an operation on two drawn registers, into a third
abbrev pub operation_code : List ℕ → ℕ → List (Instr VReg)
operation_code numbers state =
    instr.Alu
    (operation (draw 10 state))
    (register numbers (value (draw 9 (after 1 state))))
    (register numbers (value (draw 9 (after 2 state))))
    (register numbers (value (draw 9 (after 3 state))))
    ∷ []

-- a number into a register
abbrev pub number_code : List ℕ → ℕ → List (Instr VReg)
number_code numbers state =
    instr.Li (register numbers (value (draw 9 state))) (draw 65536 (after 1 state)) ∷ []

-- an address into a register, and the word there into another
abbrev pub load_code : List ℕ → ℕ → List (Instr VReg)
load_code numbers state =
    instr.Li (register numbers (value (draw 9 state))) (draw 1024 (after 1 state))
    ∷ instr.Load (register numbers (value (draw 9 (after 2 state)))) (register numbers (value (draw 9 state)))
    ∷ []

-- an address into a register, and another register to the word there
abbrev pub store_code : List ℕ → ℕ → List (Instr VReg)
store_code numbers state =
    instr.Li (register numbers (value (draw 9 state))) (draw 1024 (after 1 state))
    ∷ instr.Store (register numbers (value (draw 9 state))) (register numbers (value (draw 9 (after 2 state))))
    ∷ []

-- code that stands behind what there is, and the state after so many draws
abbrev pub with_code : Draft → List (Instr VReg) → ℕ → Draft
with_code d own draws = record { code = d.code ++ own; state = after draws d.state }

-- the row of the table that a draw below 10 picked
abbrev pub with_picked : ℕ → List ℕ → Draft → Draft
with_picked pick numbers d =
    if nat_lt pick 6 then with_code d (operation_code numbers d.state) 4
    else if pick == 6 then with_code d (number_code numbers d.state) 2
    else if pick == 7 then with_code d (load_code numbers d.state) 3
    else if pick == 8 then with_code d (store_code numbers d.state) 3
    else with_code d (instr.Yield ∷ []) 0

-- one row of the table
unfoldable pub with_row : List ℕ → Draft → Draft
with_row numbers d = with_picked (draw 10 d.state) numbers (record d { state = after 1 d.state })

-- so many rows
abbrev pub with_rows : ℕ → List ℕ → Draft → Draft
with_rows zero numbers d = d
with_rows (suc n) numbers d = with_row numbers (with_rows n numbers d)

-- before the rows: four times round, one less a time
abbrev pub opened : List ℕ → ℕ → Draft
opened numbers state = record {
  code = instr.Li (register numbers count) 4 ∷ instr.Li (register numbers one) 1 ∷ [];
  state = state;
}

-- behind the rows: back to their beginning until the count is 0, then r0 goes out
abbrev pub closing : List ℕ → List (Instr VReg)
closing numbers =
    instr.Alu op.Sub (register numbers count) (register numbers count) (register numbers one)
    ∷ instr.Branch test.Ne (register numbers count) (register numbers nought) 2
    ∷ instr.Send 0 (register numbers (value 0))
    ∷ instr.Halt
    ∷ []

-- the whole code of a context whose draws begin in this state, and the state after them
unfoldable pub drafted : List ℕ → ℕ → Draft
drafted numbers state = with_code (with_rows 800 numbers (opened numbers state)) (closing numbers) 0
