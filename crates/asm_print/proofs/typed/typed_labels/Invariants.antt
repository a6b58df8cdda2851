use Rattle.std.proofs.Common.{◌≡◌, true, take}
use Rattle.std.specs.List.{list_all}
use Rattle.micro_isa.specs.Names.{name_test}
use Rattle.asm_print.proofs.typed.typed_labels.Given as goal

abbrev pub invariant-loop-label : goal.invariant-loop-label
invariant-loop-label l = list_all (λ l. name_test l.name) (take l.label-index l.labels) ≡ true
