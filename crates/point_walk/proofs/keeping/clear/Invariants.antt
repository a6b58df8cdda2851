use Rattle.std.proofs.Common.{◌≡◌, length}
use Rattle.liveness.specs.Sets.{members}
use Rattle.point_walk.specs.Keeping.{cleared}
use Rattle.point_walk.proofs.keeping.clear.Given as goal

abbrev pub invariant-registers : goal.invariant-registers
invariant-registers l = record {
  size : length l.table ≡ 128;
  goes : cleared l.table (members 128 l.rest) ≡ cleared l.initial.table (members 128 l.registers);
}

abbrev pub decreases-registers : goal.decreases-registers
decreases-registers l = length (members 128 l.rest)
