use Rattle.std.proofs.Common.{length}
use Rattle.asm_lines.specs.Tables.{words_seen}
use Rattle.asm_context.specs.Faults.{channels}
use Rattle.asm_context.specs.Views.{seen_said}
use Rattle.asm_context.proofs.Steps.{IsAlong}
use Rattle.asm_context.proofs.reader.read_lines.Given as goal

abbrev pub invariant-lines : goal.invariant-lines
invariant-lines l = IsAlong (channels (words_seen l.names.keys) l.kinds) (seen_said l.now) l.code l.lines l.fn.lines

abbrev pub decreases-lines : goal.decreases-lines
decreases-lines l = length l.lines.lines
