use Rattle.std.proofs.Common.{◌≡◌, sum_by, count_by, not, take}
use Rattle.report_run.proofs.image.glue_words.Given as goal

abbrev pub invariant-loop-code : goal.invariant-loop-code
invariant-loop-code l = l.sum ≡ sum_by (λ code. count_by (λ word. not word.counted) code.words) (take l.code-index l.code-items)
