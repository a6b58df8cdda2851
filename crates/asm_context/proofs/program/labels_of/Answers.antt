use Rattle.micro_isa.specs.Names.{name_test}
use Rattle.asm_lines.proofs.Named.{word_at}
use Rattle.asm_context.proofs.program.labels_of.Goals as goal

pub name_of-requires : goal.name_of-requires
name_of-requires c = word_at name_test c.args.names.now c.loop-word.word-index _ c.requires c.loop-word-test.true
