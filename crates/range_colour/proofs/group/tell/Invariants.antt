use Rattle.std.proofs.Common.{◌≡◌, length}
use Rattle.liveness.specs.Sets.{members}
use Rattle.range_colour.proofs.Telling.{AreTold}
use Rattle.range_colour.proofs.group.tell.Given as goal

abbrev pub invariant-registers : goal.invariant-registers
invariant-registers l = record {
  long : length l.meets ≡ 128;
  told : AreTold l.meets l.initial.meets l.set (members 128 l.rest) (members 128 l.registers);
}

abbrev pub decreases-registers : goal.decreases-registers
decreases-registers l = length (members 128 l.rest)
