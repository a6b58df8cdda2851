use Rattle.std.proofs.Common.{◌≡◌, ◌++◌, drop}
use Rattle.asm_print.specs.Rows.{rows_text}
use Rattle.asm_print.specs.Canonical.{code_rows}
use Rattle.asm_print.proofs.context.put_code.Given as goal

abbrev pub invariant-loop-at : goal.invariant-loop-at
invariant-loop-at l =
    l.text.items ++ rows_text (code_rows l.channels l.program l.at (drop l.at l.code))
    ≡ l.initial.text.items ++ rows_text (code_rows l.channels l.program 0 l.code)
