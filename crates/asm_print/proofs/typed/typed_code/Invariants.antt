use Rattle.std.proofs.Common.{take}
use Rattle.std.specs.List.{AllByRecursion}
use Rattle.asm_print.specs.Typed.{NumberFits}
use Rattle.asm_print.proofs.typed.typed_code.Given as goal

abbrev pub invariant-loop-line : goal.invariant-loop-line
invariant-loop-line l = AllByRecursion (λ l. NumberFits l.instr) (take l.line-index l.code)
