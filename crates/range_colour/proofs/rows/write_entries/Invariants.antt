use Rattle.std.proofs.Common.{◌≡◌, ◌≤◌, ◌+◌, ◌++◌, take, length, slice_index}
use Rattle.std.specs.List.{Contains}
use Rattle.liveness.specs.Sets.{members}
use Rattle.plan.specs.declared.row.Place.{Place}
use Rattle.plan.specs.ValidPlans.{registers_of}
use Rattle.range_colour.proofs.rows.write_entries.Given as goal

abbrev pub invariant-registers : goal.invariant-registers
invariant-registers l = record {
  registers : registers_of (take l.count l.line) ++ members 128 l.rest ≡ members 128 l.set;
  places : (q : Place) → Contains (take l.count l.line) q → q.place ≡ slice_index l.places q.register.0;
  size : length l.line ≡ 128;
  few : l.count + length (members 128 l.rest) ≤ 128;
}

abbrev pub decreases-registers : goal.decreases-registers
decreases-registers l = length (members 128 l.rest)
