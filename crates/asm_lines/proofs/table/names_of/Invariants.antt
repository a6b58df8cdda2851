use Rattle.std.proofs.Common.{◌≡◌, take}
use Rattle.asm_lines.specs.Tables.{words_seen}
use Rattle.asm_lines.proofs.table.names_of.Given as goal

abbrev pub invariant-loop-word : goal.invariant-loop-word
invariant-loop-word l = l.names ≡ words_seen (take l.word-index l.words)
