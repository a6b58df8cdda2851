-- Context lines, and the contexts that they begin.
use Rattle.std.specs.Prelude.{ℕ, ◌++◌, ◌&&◌, not, nat_le, nat_eq, Bool, false, List, [], ◌∷◌, Option, Some, None, is_none, unwrap_or, if◌then◌else◌, length, fold}
use Rattle.std.specs.List.{list_any}
use Rattle.micro_isa.specs.declared.program.Program.{Program}
use Rattle.asm_lines.specs.declared.fault.BundleKind.{BundleKind}
use Rattle.asm_lines.specs.declared.fault.BundleKind.TheVariants as kind
use Rattle.asm_lines.specs.Cutting.{Words, TextLine}
use Rattle.asm_lines.specs.Faults.{At, first_kind}
use Rattle.asm_lines.specs.Verdicts.{Verdict, first_fault}
use Rattle.asm_lines.specs.Sections.{starts, ahead}
use Rattle.micro_isa.specs.declared.limits.TheConstants.{MOST_CONTEXTS}
use Rattle.asm_lines.specs.Tables.{knows, declare, misnamed, one}
use Rattle.asm_header.specs.Headers.{Header}
use Rattle.asm_context.specs.Faults.{channels, body_verdicts}
use Rattle.asm_context.specs.Forms.{does}
use Rattle.asm_context.specs.Programs.{program_of}
use Rattle.asm_context.specs.Said.{line_body}

-- the name on a context line
abbrev pub name_in : Words → Option (List ℕ)
name_in (word ∷ name ∷ []) = Some name
name_in _ = None

-- an instruction line stands among these
abbrev pub has_instruction : List TextLine → Bool
has_instruction lines = list_any (λ line. does (line_body line).form) lines

-- whether a context line has a fault of this kind: `names` are those of earlier contexts, `lines` those of its own
abbrev pub start_test : Header → Words → TextLine → List TextLine → BundleKind → Bool
start_test h names line lines kind.Byte = not line.fair
start_test h names line lines kind.Operands = is_none (name_in line.words)
start_test h names line lines kind.Name = misnamed (one (name_in line.words))
start_test h names line lines kind.Limit = nat_le MOST_CONTEXTS (length names)
start_test h names line lines kind.Repeated = list_any (knows names) (one (name_in line.words))
start_test h names line lines kind.Missing = is_none h.file && nat_eq (length names) 0
start_test h names line lines kind.Empty = not (has_instruction lines)
start_test h names line lines _ = false

abbrev pub start_fault : Header → Words → TextLine → List TextLine → Option BundleKind
start_fault h names line lines = first_kind (start_test h names line lines)

-- on a context line and the lines of its context
abbrev pub context_verdicts : Header → Words → TextLine → List TextLine → List (Verdict BundleKind)
context_verdicts h names line lines = (line.number, start_fault h names line lines) ∷ body_verdicts (channels h.names h.channels) lines

abbrev pub context_fault : Header → Words → TextLine → List TextLine → Option At
context_fault h names line lines = first_fault (context_verdicts h names line lines)

-- the names of contexts with that of one more
abbrev pub names_with : Words → TextLine → Words
names_with names line = fold declare names (one (name_in line.words))

-- on the lines of all contexts among these; `names` are those of earlier contexts
abbrev pub contexts_verdicts : Header → Words → List TextLine → List (Verdict BundleKind)
contexts_verdicts h names [] = []
contexts_verdicts h names (line ∷ lines) =
    if starts line.words
    then context_verdicts h names line (ahead lines) ++ contexts_verdicts h (names_with names line) lines
    else contexts_verdicts h names lines

abbrev pub contexts_fault : Header → Words → List TextLine → Option At
contexts_fault h names lines = first_fault (contexts_verdicts h names lines)

-- the program that a context line and the lines of its context say
abbrev pub program_at : Header → TextLine → List TextLine → Program
program_at h line lines = program_of h.names (unwrap_or (name_in line.words) []) lines

-- the programs of all contexts among these lines
abbrev pub programs : Header → List TextLine → List Program
programs h [] = []
programs h (line ∷ lines) =
    if starts line.words then program_at h line (ahead lines) ∷ programs h lines else programs h lines
