use Rattle.std.proofs.Common.{◌≡◌, ◌++◌, take}
use Rattle.micro_kit.specs.Text.{numbers}
use Rattle.report_run.specs.Report.{put_on}
use Rattle.report_run.proofs.lines.put_words_on.Given as goal

abbrev pub invariant-loop-output : goal.invariant-loop-output
invariant-loop-output l = l.text.items ≡ l.initial.text.items ++ numbers (put_on l.k (take l.output-index l.outputs))
