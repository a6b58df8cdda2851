-- The rows of the table of instructions.
use Rattle.std.specs.Prelude.{ℕ, List}

-- what an operation is called, in words and in text
pub record Row : Type 0 where
  pub opcode : ℕ
  pub mnemonic : List ℕ

abbrev pub called : ℕ → List ℕ → Row
called opcode mnemonic = record { opcode = opcode; mnemonic = mnemonic }
