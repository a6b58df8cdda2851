use Rattle.std.proofs.Common.{length}
use Rattle.asm_header.specs.Views.{seen_header}
use Rattle.asm_header.proofs.Reading.{IsAlong}
use Rattle.asm_header.proofs.reader.read_header.Given as goal

abbrev pub invariant-lines : goal.invariant-lines
invariant-lines l = IsAlong (seen_header l.header) l.lines l.fn.lines

abbrev pub decreases-lines : goal.decreases-lines
decreases-lines l = length l.lines.lines
