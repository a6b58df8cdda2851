use Rattle.std.proofs.Common.{◌≡◌, ◌++◌}
use Rattle.std.specs.Prelude.{slice_get}
use Rattle.micro_kit.specs.Text.{in_order}
use Rattle.report_run.specs.Report.{context_line}
use Rattle.report_run.proofs.report.put_contexts.Given as goal

abbrev pub invariant-loop-c : goal.invariant-loop-c
invariant-loop-c l = l.text.items ≡ l.initial.text.items ++ in_order l.c (λ c. context_line c (slice_get l.phases c))
