use Rattle.std.proofs.Common.{◌≡◌, ◌++◌, map, take}
use Rattle.asm_lines.specs.Numbers.{number_or}
use Rattle.asm_lines.specs.Tables.{words_seen}
use Rattle.asm_header.proofs.header.push_numbers.Given as goal

abbrev pub invariant-loop-number : goal.invariant-loop-number
invariant-loop-number l = l.words ≡ l.initial.words ++ map number_or (words_seen (take l.number-index l.numbers))
