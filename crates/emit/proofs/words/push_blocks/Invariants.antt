use Rattle.std.proofs.Common.{◌≡◌, ◌++◌}
use Rattle.micro_isa.specs.Pieces.{pieces}
use Rattle.emitted.specs.Words.{block_at}
use Rattle.emit.specs.Layouts.{register_at}
use Rattle.emit.proofs.words.push_blocks.Given as goal

abbrev pub invariant-loop-i : goal.invariant-loop-i
invariant-loop-i l = l.words ≡ l.initial.words ++ pieces (block_at l.code l.plan (register_at l.layout)) l.i
