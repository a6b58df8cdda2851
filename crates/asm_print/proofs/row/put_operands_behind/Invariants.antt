use Rattle.std.proofs.Common.{◌≡◌, ◌++◌, take, map, codes}
use Rattle.asm_context.specs.Views.{seen_operands}
use Rattle.asm_print.specs.Rows.{led_by}
use Rattle.asm_print.specs.Canonical.{word_in}
use Rattle.asm_print.proofs.row.put_operands_behind.Given as goal

abbrev pub invariant-loop-role : goal.invariant-loop-role
invariant-loop-role l = l.text.items ≡ l.initial.text.items ++ led_by (codes ", ") (map (word_in (seen_operands l.operands)) (take l.role-index l.roles))
