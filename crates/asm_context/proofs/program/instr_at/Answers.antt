use Rattle.std.proofs.Common.{ℕ, ap, sym, ◌∙◌}
use Rattle.micro_isa.specs.declared.operands.Operands.{Operands}
use Rattle.micro_isa.specs.declared.program.VReg.{VReg}
use Rattle.micro_isa.specs.Operands.{instr_of}
use Rattle.asm_lines.specs.Tables.{words_seen}
use Rattle.asm_context.specs.declared.form.Form.{Form}
use Rattle.asm_context.specs.Places as spec
use Rattle.asm_context.specs.Views.{seen_form, seen_outline}
use Rattle.asm_context.proofs.program.instr_at.Goals as goal

pub returns-in-Instruction : goal.returns-in-Instruction
returns-in-Instruction c =
    c.instr_of.ensures
    ∙ ap (λ (x : Operands VReg ℕ ℕ). instr_of c.in-Instruction.operation x) c.operands.ensures
    ∙ ap (λ (form : Form). spec.instr_at c.args.places (words_seen c.args.names.now.keys) (seen_outline c.args.all.now) (seen_form form)) (sym c.in-Instruction.is)
