use Rattle.std.proofs.Common.{◌≡◌, false}
use Rattle.std.specs.Prelude.{slice_get, slice_index_or}
use Rattle.micro_kit.specs.Text.{in_order}
use Rattle.report_check.specs.Facts.{lost_line}
use Rattle.report_check.proofs.facts.unreachable_lines.Given as goal

abbrev pub invariant-loop-i : goal.invariant-loop-i
invariant-loop-i l = l.lines ≡ in_order l.i (λ i. lost_line (slice_index_or l.flow.marks i false) (slice_get l.code i))
