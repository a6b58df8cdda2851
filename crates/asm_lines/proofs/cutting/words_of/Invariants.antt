use Rattle.std.proofs.Common.{◌≡◌, ◌++◌, [], length}
use Rattle.asm_lines.specs.Cutting.{words_from, told}
use Rattle.asm_lines.specs.Tables.{words_seen}
use Rattle.asm_lines.proofs.cutting.words_of.Given as goal

abbrev pub invariant-words : goal.invariant-words
invariant-words l = words_seen l.words.items ++ words_from [] (told l.rest) ≡ words_from [] (told l.line)

abbrev pub decreases-words : goal.decreases-words
decreases-words l = length (words_from [] (told l.rest))
