use Rattle.std.proofs.Common.{◌≡◌, drop}
use Rattle.std.specs.List.{list_any}
use Rattle.asm_lines.specs.Numbers.{is_no_number}
use Rattle.asm_lines.specs.Tables.{words_seen}
use Rattle.asm_header.proofs.fault.has_no_number.Given as goal

abbrev pub invariant-loop-word : goal.invariant-loop-word
invariant-loop-word l = list_any is_no_number (words_seen (drop l.word-index l.words)) ≡ list_any is_no_number (words_seen l.words)
