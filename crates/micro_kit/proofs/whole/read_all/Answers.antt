use Rattle.std.proofs.Common.{arith}
use Rattle.std.proofs.lemmas.Grind.{common_steps}
use Rattle.micro_kit.proofs.Pieces.{GivesAtMost_more}
use Rattle.micro_kit.proofs.whole.read_all.Goals as goal

pub returns-then-is_err-clause-cause : goal.returns-then-is_err-clause-cause
returns-then-is_err-clause-cause g c =
    GivesAtMost_more _ _ _ c.reads.bytes.items c.read.new.into c.in-Bytes.n _ c.reads.invariant.1 c.in-Bytes.ensures.read.2 (grind (arith, common_steps))
