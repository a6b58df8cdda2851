use Rattle.std.proofs.Common.{◌≡◌, ◌++◌}
use Rattle.std.specs.Prelude.{slice_get}
use Rattle.micro_kit.specs.Text.{in_order}
use Rattle.report_run.specs.Report.{queue_line}
use Rattle.report_run.proofs.report.put_queues.Given as goal

abbrev pub invariant-loop-k : goal.invariant-loop-k
invariant-loop-k l =
    l.text.items ≡ l.initial.text.items ++ in_order l.k (λ k. queue_line k (slice_get l.channels k) (slice_get l.view.left k) (slice_get l.view.rings k))
