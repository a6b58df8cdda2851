use Rattle.std.proofs.Common.{◌≡◌, true, take}
use Rattle.std.specs.List.{list_all}
use Rattle.micro_isa.specs.Names.{name_test}
use Rattle.asm_print.proofs.typed.typed_names.Given as goal

abbrev pub invariant-loop-name : goal.invariant-loop-name
invariant-loop-name l = list_all name_test (take l.name-index l.names) ≡ true
