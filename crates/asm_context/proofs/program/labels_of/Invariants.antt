use Rattle.std.proofs.Common.{◌≡◌, ◌++◌, drop, length}
use Rattle.asm_context.specs.Programs.{labels_from}
use Rattle.asm_lines.specs.Tables.{words_seen}
use Rattle.asm_context.proofs.program.labels_of.Given as goal

abbrev pub invariant-loop-word : goal.invariant-loop-word
invariant-loop-word l =
    (l.labels ++ labels_from l.word-index (words_seen (drop l.word-index l.names)) l.targets ≡ labels_from 0 (words_seen l.names) l.targets)
    × (length l.labels ≡ l.word-index)
