use Rattle.std.proofs.Common.{length}
use Rattle.liveness.specs.Sets.{members}
use Rattle.point_walk.specs.Walks.{Table, LeastFree, Stage}
use Rattle.point_walk.specs.Tables.{IsTaken}
use Rattle.point_walk.proofs.stage.fill.Given as goal

abbrev pub invariant-registers : goal.invariant-registers
invariant-registers l = record {
  taken : IsTaken l.places l.taken;
  goes : (last : Table) → Stage (LeastFree) (members 128 l.rest) l.places last → Stage (LeastFree) (members 128 l.registers) l.initial.places last;
}

abbrev pub decreases-registers : goal.decreases-registers
decreases-registers l = length (members 128 l.rest)
