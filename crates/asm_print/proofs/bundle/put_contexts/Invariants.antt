use Rattle.std.proofs.Common.{◌≡◌, ◌++◌, take}
use Rattle.std.specs.List.{flat_map}
use Rattle.asm_print.specs.Rows.{rows_text}
use Rattle.asm_print.specs.Canonical.{context_rows}
use Rattle.asm_print.proofs.bundle.put_contexts.Given as goal

abbrev pub invariant-loop-program : goal.invariant-loop-program
invariant-loop-program l = l.text.items ≡ l.initial.text.items ++ rows_text (flat_map (context_rows l.channels) (take l.program-index l.programs))
