use Rattle.asm_print.proofs.bundle.put_bundle.Goals as goal

pub put_contexts-requires : goal.put_contexts-requires
put_contexts-requires c = rw c.as_slice.ensures c.requires.programs
