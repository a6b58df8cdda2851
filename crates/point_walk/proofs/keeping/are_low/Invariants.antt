use Rattle.std.proofs.Common.{length}
use Rattle.liveness.specs.Sets.{members}
use Rattle.point_walk.specs.Keeping.{AreLow}
use Rattle.point_walk.proofs.keeping.are_low.Given as goal

abbrev pub invariant-registers : goal.invariant-registers
invariant-registers l = AreLow l.p l.table (members 128 l.rest) → AreLow l.p l.table (members 128 l.registers)

abbrev pub decreases-registers : goal.decreases-registers
decreases-registers l = length (members 128 l.rest)
