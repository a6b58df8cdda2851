use Rattle.std.proofs.Common.{◌≡◌, ◌++◌}
use Rattle.std.specs.Prelude.{slice_get}
use Rattle.micro_kit.specs.Text.{in_order}
use Rattle.report_run.specs.Report.{output_line}
use Rattle.report_run.proofs.report.put_outputs.Given as goal

abbrev pub invariant-loop-k : goal.invariant-loop-k
invariant-loop-k l = l.text.items ≡ l.initial.text.items ++ in_order l.k (λ k. output_line l.outputs k (slice_get l.channels k))
