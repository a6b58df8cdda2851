use Rattle.std.proofs.Common.{◌≡◌, ◌&&◌, drop}
use Rattle.std.specs.List.{list_all}
use Rattle.asm_lines.specs.Cutting.{is_allowed}
use Rattle.asm_lines.proofs.cutting.are_allowed.Given as goal

abbrev pub invariant-loop-c : goal.invariant-loop-c
invariant-loop-c l = (l.fair && list_all is_allowed (drop l.c-index l.line)) ≡ list_all is_allowed l.line
