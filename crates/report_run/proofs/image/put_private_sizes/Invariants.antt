use Rattle.std.proofs.Common.{◌≡◌, ◌++◌, take}
use Rattle.report_run.specs.Report.{private_sizes}
use Rattle.report_run.proofs.image.put_private_sizes.Given as goal

abbrev pub invariant-loop-code : goal.invariant-loop-code
invariant-loop-code l = l.text.items ≡ l.initial.text.items ++ private_sizes (take l.code-index l.code-items)
