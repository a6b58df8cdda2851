use Rattle.range_colour.specs.Settling.{AllHalfMeet, AmongFirst}
use Rattle.range_colour.proofs.Gathering.{IsHalfGathered}
use Rattle.range_colour.proofs.group.gather.Given as goal

abbrev pub invariant-members : goal.invariant-members
invariant-members l = record {
  gathered : IsHalfGathered l.code (AmongFirst l.members l.at) l.group.registers l.group.crossing l.meets;
  last : AllHalfMeet l.meets l.last;
}
