-- The program that a context's lines say, where they have no fault.
use Rattle.std.specs.Prelude.{ℕ, ◌+◌, ◌++◌, List, [], ◌∷◌, Option, Some, None, slice_index}
use Rattle.micro_isa.specs.declared.instr.Instr.{Instr}
use Rattle.micro_isa.specs.declared.program.VReg.{VReg}
use Rattle.micro_isa.specs.declared.program.Line.{Line}
use Rattle.micro_isa.specs.declared.program.Label.{Label}
use Rattle.micro_isa.specs.declared.program.Program.{Program}
use Rattle.micro_isa.specs.Operands.{instr_of}
use Rattle.asm_lines.specs.Cutting.{Words, TextLine}
use Rattle.asm_lines.specs.Numbers.{number_or}
use Rattle.asm_lines.specs.Tables.{place_of}
use Rattle.asm_context.specs.Spelt.{each}
use Rattle.asm_context.specs.Forms.{Form, Instruction}
use Rattle.asm_context.specs.Said.{Said, with_line, line_body, said_by}

-- the number of a register
abbrev pub register : Words → List ℕ → VReg
register registers name = record { 0 = place_of registers name }

-- the number of the instruction that a label names
abbrev pub target : Said → List ℕ → ℕ
target all label = slice_index all.targets (place_of all.labels label)

-- the instruction of a line, where it has one, over registers, names of channels and what all lines say
abbrev pub instr_in : Words → Words → Said → Form → Option (Instr VReg)
instr_in rs chs all (Instruction o x) = instr_of o (each (register rs) number_or (target all) (place_of chs) x)
instr_in rs chs all _ = None

-- an instruction with the line that it stands on
abbrev pub on_line : ℕ → Option (Instr VReg) → List Line
on_line n None = []
on_line n (Some i) = record { instr = i; line = n } ∷ []

-- the instruction of a line, after what the earlier lines say
abbrev pub line_code : Words → Said → Said → TextLine → List Line
line_code chs earlier all line =
    on_line line.number (instr_in (with_line earlier line).registers chs all (line_body line).form)

-- the instructions of lines, after these lines of their context
abbrev pub code_after : Words → Said → List TextLine → List TextLine → List Line
code_after chs all before [] = []
code_after chs all before (line ∷ lines) =
    line_code chs (said_by before) all line ++ code_after chs all (before ++ line ∷ []) lines

-- the instructions of a context
abbrev pub code_of : Words → List TextLine → List Line
code_of chs lines = code_after chs (said_by lines) [] lines

-- labels, each with the target at its place
abbrev pub labels_from : ℕ → Words → List ℕ → List Label
labels_from place [] targets = []
labels_from place (name ∷ names) targets = record { name = name; target = slice_index targets place } ∷ labels_from (place + 1) names targets

-- the program of a context of this name, over the names of channels
abbrev pub program_of : Words → List ℕ → List TextLine → Program
program_of chs name lines = record {
  name = name;
  registers = (said_by lines).registers;
  labels = labels_from 0 (said_by lines).labels (said_by lines).targets;
  code = code_of chs lines;
}
