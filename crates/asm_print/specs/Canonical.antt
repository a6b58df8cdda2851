-- The canonical text of a bundle.
use Rattle.std.specs.Prelude.{ℕ, ◌+◌, ◌==◌, List, [], ◌∷◌, ◌++◌, map, filter, Option, Some, None, slice_get, unwrap_or, decimal, codes}
use Rattle.std.specs.List.{flat_map, zip}
use Rattle.micro_isa.specs.declared.instr.Instr.{Instr}
use Rattle.micro_isa.specs.declared.operation.Role.{Role}
use Rattle.micro_isa.specs.declared.operation.Role.TheVariants.{To, A, B}
use Rattle.micro_isa.specs.declared.operands.Extra.{Extra}
use Rattle.micro_isa.specs.declared.operands.Extra.TheVariants.{Nothing, Number, Target, Receive, Send}
use Rattle.micro_isa.specs.declared.operands.Operands.{Operands}
use Rattle.micro_isa.specs.declared.program.VReg.{VReg}
use Rattle.micro_isa.specs.declared.program.Line.{Line}
use Rattle.micro_isa.specs.declared.program.Label.{Label}
use Rattle.micro_isa.specs.declared.program.Program.{Program}
use Rattle.micro_isa.specs.declared.program.PortUse.{PortUse}
use Rattle.micro_isa.specs.declared.program.Channel.{Channel}
use Rattle.micro_isa.specs.declared.program.Channel.TheVariants.{Inner, Input, Output}
use Rattle.micro_isa.specs.declared.program.Bundle.{Bundle}
use Rattle.micro_isa.specs.Operands.{operation_of, operands_of}
use Rattle.micro_isa.specs.Table.{row_of, roles_of}
use Rattle.asm_context.specs.Spelt.{Spelt, each}
use Rattle.asm_print.specs.Rows.{Row, Flush, Indented, rows_text}

-- the name with this number; formed bundles have it
abbrev pub name_at : List (List ℕ) → ℕ → List ℕ
name_at names k = unwrap_or (slice_get names k) []

abbrev pub register_name : Program → VReg → List ℕ
register_name p r = name_at p.registers r.0

-- the labels of an instruction, in their order
abbrev pub labels_at : List Label → ℕ → List Label
labels_at labels at = filter (λ l. l.target == at) labels

abbrev pub first_name : List Label → List ℕ
first_name [] = []
first_name (l ∷ ls) = l.name

-- a target is named by the first label in the program's list that has it
abbrev pub target_name : List Label → ℕ → List ℕ
target_name labels target = first_name (labels_at labels target)

-- operands by the names of a program's registers and labels, and of the channels
abbrev pub spelt : List (List ℕ) → Program → Operands VReg ℕ ℕ → Spelt
spelt channels p x = each (register_name p) decimal (target_name p.labels) (name_at channels) x

abbrev or_empty : Option (List ℕ) → List ℕ
or_empty o = unwrap_or o []

abbrev pub extra_word : Extra (List ℕ) (List ℕ) → List ℕ
extra_word Nothing = []
extra_word (Number w) = w
extra_word (Target w) = w
extra_word (Receive w) = w
extra_word (Send w) = w

-- the word in a role
abbrev pub word_in : Spelt → Role → List ℕ
word_in x To = or_empty x.to
word_in x A = or_empty x.a
word_in x B = or_empty x.b
word_in x _ = extra_word x.extra

-- an instruction of a program: its mnemonic, and its operands in the order of the text
abbrev pub instruction_row : List (List ℕ) → Program → Instr VReg → Row
instruction_row channels p i =
    Indented (row_of (operation_of i)).mnemonic (map (word_in (spelt channels p (operands_of i))) (roles_of (operation_of i)))

abbrev pub label_row : Label → Row
label_row l = Flush ((l.name ++ codes ":") ∷ [])

-- an instruction behind its labels
abbrev pub line_rows : List (List ℕ) → Program → ℕ → Line → List Row
line_rows channels p at l = map label_row (labels_at p.labels at) ++ instruction_row channels p l.instr ∷ []

-- instructions, of which the first has this number
abbrev pub code_rows : List (List ℕ) → Program → ℕ → List Line → List Row
code_rows channels p at [] = []
code_rows channels p at (l ∷ ls) = line_rows channels p at l ++ code_rows channels p (at + 1) ls

abbrev pub context_rows : List (List ℕ) → Program → List Row
context_rows channels p = Flush (codes "context" ∷ p.name ∷ []) ∷ code_rows channels p 0 p.code

-- all initial words of an input on one line, where it has any
abbrev pub words_rows : List ℕ → List ℕ → List Row
words_rows name [] = []
words_rows name (n ∷ ns) = Flush (codes "words" ∷ name ∷ map decimal (n ∷ ns)) ∷ []

abbrev pub input_row : List ℕ → Option PortUse → Row
input_row name None = Flush (codes "input" ∷ name ∷ [])
input_row name (Some port) =
    Flush (codes "input" ∷ name ∷ codes "port" ∷ decimal port.number ∷ decimal port.capacity ∷ [])

abbrev pub output_row : List ℕ → Option ℕ → Row
output_row name None = Flush (codes "output" ∷ name ∷ [])
output_row name (Some port) = Flush (codes "output" ∷ name ∷ codes "port" ∷ decimal port ∷ [])

abbrev pub channel_rows : List ℕ → Channel → List Row
channel_rows name (Inner capacity) = Flush (codes "inner" ∷ name ∷ decimal capacity ∷ []) ∷ []
channel_rows name (Input words port) = input_row name port ∷ words_rows name words
channel_rows name (Output port) = output_row name port ∷ []

-- the channels, each with its name
abbrev pub channels_rows : List (List ℕ) → List Channel → List Row
channels_rows names channels = flat_map (λ c. channel_rows c.0 c.1) (zip names channels)

abbrev pub header_rows : Bundle → List Row
header_rows b =
    Flush (codes "file" ∷ decimal b.file ∷ [])
    ∷ Flush (codes "memory" ∷ decimal b.setting.memory ∷ [])
    ∷ channels_rows b.names b.setting.channels

-- the lines of the header, and then those of each context
abbrev pub canonical_rows : Bundle → List Row
canonical_rows b = header_rows b ++ flat_map (context_rows b.names) b.programs

unfoldable pub canonical_text : Bundle → List ℕ
canonical_text b = rows_text (canonical_rows b)
