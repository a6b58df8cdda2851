use Rattle.std.proofs.Common.{◌≡◌, ◌≤◌, ◌-◌, [], take, drop}
use Rattle.asm_lines.specs.Cutting.{words_from, told}
use Rattle.asm_lines.proofs.cutting.split_word.Given as goal

abbrev pub invariant-loop-i : goal.invariant-loop-i
invariant-loop-i l =
    (l.start ≤ l.i)
    × (words_from (take (l.i - l.start) (drop l.start l.line)) (told (drop l.i l.line)) ≡ words_from [] (told l.line))
