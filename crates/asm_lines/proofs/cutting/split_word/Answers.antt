use Rattle.std.proofs.Common.{◌≡◌, ◌==◌, get_or, false, arith, sym, ◌∙◌}
use Rattle.std.proofs.lemmas.Bool.Decides.{nat_tests}
use Rattle.asm_lines.specs.Cutting.{is_gap}
use Rattle.asm_lines.proofs.Steps.{words_on}
use Rattle.asm_lines.proofs.cutting.split_word.Goals as goal

pub loop-i-preserved-then-not-is_gap : goal.loop-i-preserved-then-not-is_gap
loop-i-preserved-then-not-is_gap c =
    let i = c.loop-i.invariant in
    let told : (get_or c.args.line.now c.loop-i.i 0 == 35) ≡ false = grind (arith, nat_tests, c.if-line-i-eq35.false) in
    let e : is_gap (get_or c.args.line.now c.loop-i.i 0) ≡ false = sym c.is_gap.ensures ∙ c.if-not-is_gap.true in
    (omega arith, sym (words_on c.args.line.now c.loop-i.start c.loop-i.i i.0 c.loop-i-test.true told e) ∙ i.1)
