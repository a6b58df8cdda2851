use Rattle.std.proofs.Common.{◌≡◌, [], ◌∷◌}
use Rattle.micro_isa.specs.Pieces.{pieces}
use Rattle.emitted.specs.Words.{word_at}
use Rattle.emit.specs.Layouts.{register_at}
use Rattle.emit.proofs.still.still_words.Given as goal

abbrev pub invariant-loop-i : goal.invariant-loop-i
invariant-loop-i l = l.words ≡ pieces (λ k. word_at l.code l.plan (register_at l.layout) k ∷ []) l.i
