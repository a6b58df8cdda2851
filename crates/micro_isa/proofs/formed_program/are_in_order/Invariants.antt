use Rattle.std.proofs.Common.{◌≡◌, drop, map}
use Rattle.micro_isa.specs.Formed.{never_drops}
use Rattle.micro_isa.proofs.formed_program.are_in_order.Given as goal

abbrev pub invariant-loop-label : goal.invariant-loop-label
invariant-loop-label l = never_drops l.least (map (λ b. b.target) (drop l.label-index l.labels)) ≡ never_drops 0 (map (λ b. b.target) l.labels)
