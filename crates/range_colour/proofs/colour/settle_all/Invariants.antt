use Rattle.std.proofs.Common.{◌≤◌, ◌+◌, vec_len}
use Rattle.range_colour.specs.Settling.{IsSettledTo}
use Rattle.range_colour.proofs.colour.settle_all.Given as goal

abbrev pub invariant-registers : goal.invariant-registers
invariant-registers l = record {
  settled : IsSettledTo l.meets l.done l.set l.k l.initial.places l.places l.taken.items l.above;
  few : vec_len l.taken ≤ vec_len l.initial.taken + l.k;
}
