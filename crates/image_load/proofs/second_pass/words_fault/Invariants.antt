use Rattle.std.proofs.Common.{◌≡◌, ◌+◌, ◌*◌, drop}
use Rattle.image_load.specs.Loading.{words_fault}
use Rattle.image_load.proofs.second_pass.words_fault.Given as goal

abbrev pub invariant-loop-word : goal.invariant-loop-word
invariant-loop-word l = (l.place ≡ l.start + 12 * l.word-index) × (l.i ≡ l.word-index) × (words_fault l.image l.code l.place l.i (drop l.word-index l.code.words) ≡ words_fault l.image l.code l.start 0 l.code.words)
