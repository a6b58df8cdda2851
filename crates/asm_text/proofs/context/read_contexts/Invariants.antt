use Rattle.std.proofs.Common.{length}
use Rattle.asm_lines.specs.Tables.{words_seen}
use Rattle.asm_header.specs.Views.{seen_header}
use Rattle.asm_text.proofs.Walking.{AreRead}
use Rattle.asm_text.proofs.context.read_contexts.Given as goal

abbrev pub invariant-contexts : goal.invariant-contexts
invariant-contexts l = AreRead (seen_header l.header) (words_seen l.names.keys) l.all l.lines l.fn.lines

abbrev pub decreases-contexts : goal.decreases-contexts
decreases-contexts l = length l.lines.lines
