-- What the words of a line in a context say.
use Rattle.std.specs.Prelude.{ℕ, ◌-◌, ◌==◌, Bool, true, false, List, [], ◌∷◌, Option, Some, None, if◌then◌else◌, length, slice_index, take}
use Rattle.micro_isa.specs.declared.operation.Operation.{Operation}
use Rattle.micro_isa.specs.declared.operands.Extra.{Extra}
use Rattle.micro_isa.specs.declared.operands.Extra.TheVariants.{Nothing}
use Rattle.micro_isa.specs.Columns as columns
use Rattle.micro_isa.specs.Operands.{with}
use Rattle.micro_isa.specs.Table.{named, roles_of}
use Rattle.asm_lines.specs.Cutting.{Words}
use Rattle.asm_lines.specs.Heads.{WordHead}
use Rattle.asm_context.specs.Spelt.{Spelt, operands_in, number_of, received, sent}

-- the form of a line behind its label, with its operands as words that are not judged yet
pub data Form : Type 0 where
  Blank : Form
  Instruction : (operation : Operation) (operands : Spelt) → Form
  Miscounted : Form
  Unknown : Form

abbrev pub counted_form : Operation → Option Spelt → Form
counted_form o None = Miscounted
counted_form o (Some x) = Instruction o x

abbrev pub named_form : Option Operation → Words → Form
named_form None operands = Unknown
named_form (Some o) operands = counted_form o (operands_in (roles_of o) operands)

-- the form of the words behind a label, or of a line without one
abbrev pub form_of : Words → Form
form_of [] = Blank
form_of (word ∷ operands) = named_form (named word) operands

-- the name before a colon at the end of a word
abbrev pub label_in : List ℕ → Option (List ℕ)
label_in word = if slice_index word (length word - 1) == 58 then Some (take (length word - 1) word) else None

-- a line in a context: its label and its form
pub record Body : Type 0 where
  pub label : Option (List ℕ)
  pub form : Form

abbrev pub labelled : Option (List ℕ) → List ℕ → Words → Body
labelled None word words = record { label = None; form = form_of (word ∷ words) }
labelled (Some name) word words = record { label = Some name; form = form_of words }

-- what a line of these words says
abbrev pub body_of : Words → Body
body_of [] = record { label = None; form = Blank }
body_of (word ∷ words) = labelled (label_in word) word words

abbrev pub is_unknown : Form → Bool
is_unknown Unknown = true
is_unknown _ = false

abbrev pub is_miscounted : Form → Bool
is_miscounted Miscounted = true
is_miscounted _ = false

-- an instruction line has a word besides a label
abbrev pub does : Form → Bool
does Blank = false
does _ = true

-- the label of a line with this first word, if it has one
abbrev pub label_first : Option (List ℕ) → Option (List ℕ)
label_first None = None
label_first (Some word) = label_in word

abbrev pub does_after : Option (List ℕ) → Bool → Bool
does_after None more = true
does_after (Some name) more = more

-- whether a line with this first word, and with more words or none, has a word besides a label
abbrev pub does_first : Option (List ℕ) → Bool → Bool
does_first None more = false
does_first (Some word) more = does_after (label_in word) more

-- the label of a line with this head, and whether it has an instruction
abbrev pub label_at : WordHead → Option (List ℕ)
label_at h = label_first h.first

abbrev pub does_at : WordHead → Bool
does_at h = does_first h.first h.more

-- what stands behind such a line is not reached in order
abbrev pub ends : Form → Bool
ends (Instruction o x) = columns.ends o
ends _ = false

-- the operands; a line without an instruction has none
abbrev pub operands_of : Form → Spelt
operands_of (Instruction o x) = x
operands_of _ = with None None None Nothing

-- the registers, in the order of the text
abbrev pub registers_in : Form → Words
registers_in f = columns.registers (operands_of f)

-- what a line names beside registers
abbrev pub extra_in : Form → Extra (List ℕ) (List ℕ)
extra_in f = (operands_of f).extra

-- the label that a line goes to
abbrev pub goes_to : Form → Option (List ℕ)
goes_to f = columns.target_in (extra_in f)

-- the channel that a line receives from
abbrev pub receives_from : Form → Option (List ℕ)
receives_from f = received (extra_in f)

-- the channel that a line sends to
abbrev pub sends_to : Form → Option (List ℕ)
sends_to f = sent (extra_in f)

-- the operand that must be a number
abbrev pub number_in : Form → Option (List ℕ)
number_in f = number_of (extra_in f)
