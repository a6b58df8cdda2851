use Rattle.std.proofs.Common.{◌∙◌, sym}
use Rattle.std.proofs.lemmas.Option.{same_Some}
use Rattle.micro_isa.specs.declared.program.VReg.{VReg}
use Rattle.plan.specs.ValidPlans.{place_in}
use Rattle.emitted.specs.Words.{reword}
use Rattle.emit.specs.Layouts.{register_at}
use Rattle.emit.proofs.Laying.{made_anew}
use Rattle.emit.proofs.counted.reworded.Goals as goal

pub unreachable-requires : goal.unreachable-requires
unreachable-requires c =
    let made = made_anew (λ (v : VReg). register_at c.args.layout (place_in c.args.places.now v.0)) (register_at c.args.layout c.args.write) (λ j. c.args.goto) c.args.instr c.operation_of.result c.operands_of.result c.renamed-operands.result c.operation_of.ensures c.operands_of.ensures c.renamed-operands.ensures in
    let none = sym c.in-None.is ∙ c.instr_of.ensures ∙ made in
    absurd (cc)

pub returns : goal.returns
returns c =
    let f = λ (v : VReg). register_at c.args.layout (place_in c.args.places.now v.0) in
    let g = register_at c.args.layout c.args.write in
    let made = made_anew f g (λ j. c.args.goto) c.args.instr c.operation_of.result c.operands_of.result c.renamed-operands.result c.operation_of.ensures c.operands_of.ensures c.renamed-operands.ensures in
    same_Some c.in-Some.instr (reword f g (λ j. c.args.goto) c.args.instr) (sym c.in-Some.is ∙ c.instr_of.ensures ∙ made)
