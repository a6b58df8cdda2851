use Rattle.std.proofs.Common.{◌≡◌, ◌++◌, decimal, codes, map, take}
use Rattle.asm_print.specs.Rows.{led_by}
use Rattle.asm_print.proofs.header.put_numbers.Given as goal

abbrev pub invariant-loop-n : goal.invariant-loop-n
invariant-loop-n l = l.text.items ≡ l.initial.text.items ++ led_by (codes " ") (map decimal (take l.n-index l.words))
