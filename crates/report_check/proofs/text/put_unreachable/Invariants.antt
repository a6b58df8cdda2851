use Rattle.std.proofs.Common.{◌≡◌, ◌++◌, take}
use Rattle.std.specs.List.{flat_map}
use Rattle.report_check.specs.Checks.{unreachable_line}
use Rattle.report_check.proofs.text.put_unreachable.Given as goal

abbrev pub invariant-loop-line : goal.invariant-loop-line
invariant-loop-line l = l.text.items ≡ l.initial.text.items ++ flat_map (unreachable_line l.c) (take l.line-index l.lines)
