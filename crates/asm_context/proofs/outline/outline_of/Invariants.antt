use Rattle.std.proofs.Common.{length}
use Rattle.asm_lines.specs.Sections.{ahead}
use Rattle.asm_context.specs.Views.{seen_outline}
use Rattle.asm_context.proofs.Outlining.{IsOutlined}
use Rattle.asm_context.proofs.outline.outline_of.Given as goal

abbrev pub invariant-lines : goal.invariant-lines
invariant-lines l = IsOutlined (seen_outline l.all) (ahead l.left.lines) (ahead l.lines.lines)

abbrev pub decreases-lines : goal.decreases-lines
decreases-lines l = length (ahead l.left.lines)
