use Rattle.std.proofs.Common.{◌≡◌, ◌≤◌, ◌+◌, drop, length}
use Rattle.std.specs.List.{flat_map}
use Rattle.micro_isa.specs.declared.limits.TheConstants.{LONGEST_IMAGE}
use Rattle.image_load.specs.Spelling.{code_bytes}
use Rattle.image_load.specs.Loading.{codes_fault}
use Rattle.image_load.proofs.second_pass.codes_fault.Given as goal

abbrev pub invariant-loop-code : goal.invariant-loop-code
invariant-loop-code l = (l.place + length (flat_map code_bytes (drop l.code-index l.image.contexts)) ≤ LONGEST_IMAGE) × (codes_fault l.image l.place (drop l.code-index l.image.contexts) ≡ codes_fault l.image l.start l.image.contexts)
