use Rattle.std.proofs.Common.{◌≡◌, ◌++◌, map, take}
use Rattle.asm_print.specs.Rows.{rows_text}
use Rattle.asm_print.specs.Canonical.{label_row}
use Rattle.asm_print.proofs.context.put_labels.Given as goal

abbrev pub invariant-loop-label : goal.invariant-loop-label
invariant-loop-label l = l.text.items ≡ l.initial.text.items ++ rows_text (map label_row (take l.label-index l.labels))
