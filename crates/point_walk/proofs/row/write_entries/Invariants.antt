use Rattle.std.proofs.Common.{◌≡◌, ◌≤◌, ◌+◌, ◌++◌, take, length}
use Rattle.liveness.specs.Sets.{members}
use Rattle.point_walk.specs.Walks.{entries}
use Rattle.point_walk.proofs.row.write_entries.Given as goal

abbrev pub invariant-registers : goal.invariant-registers
invariant-registers l = record {
  written : take l.count l.line ++ entries l.places (members 128 l.rest) ≡ entries l.places (members 128 l.registers);
  size : length l.line ≡ 128;
  few : l.count + length (members 128 l.rest) ≤ 128;
}

abbrev pub decreases-registers : goal.decreases-registers
decreases-registers l = length (members 128 l.rest)
