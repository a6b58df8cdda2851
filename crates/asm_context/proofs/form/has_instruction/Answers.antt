use Rattle.std.proofs.Common.{ap, ◌∙◌}
use Rattle.asm_context.specs.Forms.{does_at}
use Rattle.asm_context.proofs.Outlining.{does_head}
use Rattle.asm_context.proofs.form.has_instruction.Goals as goal

pub returns : goal.returns
returns c = c.does_at.ensures ∙ ap does_at c.head.ensures ∙ does_head c.args.row.now.words
