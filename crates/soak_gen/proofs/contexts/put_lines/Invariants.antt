use Rattle.std.proofs.Common.{◌≡◌, ◌+◌, ◌++◌, drop}
use Rattle.soak_gen.specs.Bundles.{on_lines}
use Rattle.soak_gen.proofs.contexts.put_lines.Given as goal

abbrev pub invariant-loop-instr : goal.invariant-loop-instr
invariant-loop-instr l =
    (l.lines ++ on_lines l.line (drop l.instr-index l.instrs) ≡ l.initial.lines ++ on_lines l.first l.instrs)
    × (l.line ≡ l.first + l.instr-index)
