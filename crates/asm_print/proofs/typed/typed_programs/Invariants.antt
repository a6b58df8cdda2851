use Rattle.std.proofs.Common.{take}
use Rattle.std.specs.List.{AllByRecursion}
use Rattle.asm_print.specs.Typed.{IsTypedProgram}
use Rattle.asm_print.proofs.typed.typed_programs.Given as goal

abbrev pub invariant-loop-program : goal.invariant-loop-program
invariant-loop-program l = AllByRecursion IsTypedProgram (take l.program-index l.programs)
