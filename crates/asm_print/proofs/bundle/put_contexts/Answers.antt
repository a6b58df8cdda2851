use Rattle.std.proofs.Common.{refl}
use Rattle.std.proofs.lemmas.Option.{slice_get_read}
use Rattle.asm_print.proofs.bundle.put_contexts.Goals as goal

pub put_context-requires : goal.put_context-requires
put_context-requires c =
    let p = c.requires c.loop-program.program-index c.program-item.result (slice_get_read _ _ _ _ refl c.loop-program-test.true c.program-item.is) in
    p.label_order
