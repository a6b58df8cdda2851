use Rattle.std.proofs.Common.{◌≡◌, ◌++◌}
use Rattle.std.specs.Prelude.{slice_index}
use Rattle.micro_kit.specs.Text.{in_order}
use Rattle.report_run.specs.Report.{memory_line}
use Rattle.report_run.proofs.lines.put_memory.Given as goal

abbrev pub invariant-loop-address : goal.invariant-loop-address
invariant-loop-address l = l.text.items ≡ l.initial.text.items ++ in_order l.address (λ a. memory_line a (slice_index l.memory a))
