use Rattle.std.proofs.Common.{◌≡◌, ◌==◌, get_or, false, arith, sym, ◌∙◌}
use Rattle.std.proofs.lemmas.Bool.Decides.{nat_tests}
use Rattle.asm_lines.proofs.Steps.{lines_on}
use Rattle.asm_lines.proofs.lines.first_line.Goals as goal

pub loop-i-preserved : goal.loop-i-preserved
loop-i-preserved c =
    let e : (get_or c.args.text.now c.loop-i.i 0 == 10) ≡ false = grind (arith, nat_tests, c.if-text-i-eq10.false) in
    sym (lines_on c.args.text.now c.loop-i.i c.loop-i-test.true e) ∙ c.loop-i.invariant
