use Rattle.std.proofs.Common.{◌≡◌, length}
use Rattle.asm_lines.specs.Sections.{ahead}
use Rattle.asm_text.specs.Contexts.{has_instruction}
use Rattle.asm_text.proofs.context.has_instruction_line.Given as goal

abbrev pub invariant-lines : goal.invariant-lines
invariant-lines l = has_instruction (ahead l.left.lines) ≡ has_instruction (ahead l.lines.lines)

abbrev pub decreases-lines : goal.decreases-lines
decreases-lines l = length (ahead l.left.lines)
