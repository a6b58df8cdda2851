use Rattle.std.proofs.Common.{arith}
use Rattle.std.proofs.lemmas.List.{take_rest}
use Rattle.micro_kit.proofs.Pieces.{Grew_more}
use Rattle.micro_kit.proofs.whole.write_all.Goals as goal

pub writes-preserved : goal.writes-preserved
writes-preserved g c =
    let i = c.writes.invariant in
    let w = c.in-Took.ensures.write in
    (omega arith, Grew_more _ _ _ c.writes.taken c.in-Took.n c.args.bytes.now i.1 (rw take_rest at w.2) i.0, omega arith)
