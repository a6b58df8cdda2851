use Rattle.std.proofs.Common.{◌≡◌, [], take, drop}
use Rattle.asm_lines.specs.Cutting.{lines_from}
use Rattle.asm_lines.proofs.lines.first_line.Given as goal

abbrev pub invariant-loop-i : goal.invariant-loop-i
invariant-loop-i l = lines_from (take l.i l.text) (drop l.i l.text) ≡ lines_from [] l.text
