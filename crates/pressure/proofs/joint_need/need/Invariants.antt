use Rattle.std.proofs.Common.{◌≡◌, ◌+◌, ◌-◌, ◌*◌, ◌≤◌, max, map, drop}
use Rattle.std.specs.List.{sum_by}
use Rattle.micro_isa.specs.declared.limits.TheConstants.{MOST_REGISTERS}
use Rattle.pressure.specs.Pressures.{greatest}
use Rattle.pressure.proofs.joint_need.need.Given as goal

abbrev pub invariant-parts : goal.invariant-parts
invariant-parts l = record {
  summed : l.private + sum_by (λ part. part.private) (drop l.part-index l.parts) ≡ sum_by (λ part. part.private) l.parts;
  small : l.private ≤ MOST_REGISTERS * l.part-index;
  most : max l.shared (greatest (map (λ part. part.all - part.private) (drop l.part-index l.parts))) ≡ greatest (map (λ part. part.all - part.private) l.parts);
  low : l.shared ≤ MOST_REGISTERS;
}
