use Rattle.std.proofs.Common.{◌≡◌, [], drop}
use Rattle.micro_isa.specs.Formed.{firsts_after}
use Rattle.soak_gen.specs.Bundles.{named}
use Rattle.soak_gen.proofs.naming.order_in.Given as goal

abbrev pub invariant-loop-instr : goal.invariant-loop-instr
invariant-loop-instr l = firsts_after l.order (named (drop l.instr-index l.code)) ≡ firsts_after [] (named l.code)
