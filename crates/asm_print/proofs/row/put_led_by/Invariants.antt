use Rattle.std.proofs.Common.{◌≡◌, ◌++◌, take}
use Rattle.asm_print.specs.Rows.{led_by}
use Rattle.asm_lines.specs.Tables.{words_seen}
use Rattle.asm_print.proofs.row.put_led_by.Given as goal

abbrev pub invariant-loop-word : goal.invariant-loop-word
invariant-loop-word l = l.text.items ≡ l.initial.text.items ++ led_by l.gap (words_seen (take l.word-index l.words))
