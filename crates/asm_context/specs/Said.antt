-- What the lines of a context say together.
use Rattle.std.specs.Prelude.{ℕ, ◌+◌, ◌++◌, Bool, true, false, List, [], ◌∷◌, Option, Some, None, fold, if◌then◌else◌}
use Rattle.asm_lines.specs.Cutting.{Words, TextLine}
use Rattle.asm_lines.specs.Tables.{knows, declare, one}
use Rattle.asm_context.specs.Forms.{Body, body_of, does, registers_in}

-- labels and registers in the order of their first appearance, for each label the number of the instruction that it
-- names, and how many instruction lines there are
pub record Said : Type 0 where
  pub labels : Words
  pub targets : List ℕ
  pub registers : Words
  pub done : ℕ

-- before any line
abbrev pub nothing : Said
nothing = record { labels = []; targets = []; registers = []; done = 0 }

-- the targets with that of this label, where it is new
abbrev pub targets_after : Words → List ℕ → ℕ → Option (List ℕ) → List ℕ
targets_after labels targets done None = targets
targets_after labels targets done (Some label) = if knows labels label then targets else targets ++ done ∷ []

abbrev pub count : Bool → ℕ
count true = 1
count false = 0

-- what is said with one more line
abbrev pub with_body : Said → Body → Said
with_body s b = record {
  labels = fold declare s.labels (one b.label);
  targets = targets_after s.labels s.targets s.done b.label;
  registers = fold declare s.registers (registers_in b.form);
  done = s.done + count (does b.form);
}

abbrev pub line_body : TextLine → Body
line_body line = body_of line.words

abbrev pub with_line : Said → TextLine → Said
with_line s line = with_body s (line_body line)

-- what these lines say
abbrev pub said_by : List TextLine → Said
said_by lines = fold with_line nothing lines

-- what is said of labels and of how many instruction lines there are, without the registers
abbrev pub outline : Said → Said
outline s = record { labels = s.labels; targets = s.targets; registers = []; done = s.done }
