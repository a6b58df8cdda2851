use Rattle.std.proofs.Common.{◌≡◌, take}
use Rattle.report_run.specs.Report.{sum_out}
use Rattle.report_run.proofs.soak.sum_out.Given as goal

abbrev pub invariant-loop-output : goal.invariant-loop-output
invariant-loop-output l = l.sum ≡ sum_out (take l.output-index l.outputs)
