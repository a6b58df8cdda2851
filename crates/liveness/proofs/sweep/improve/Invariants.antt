use Rattle.std.proofs.Common.{◌-◌, ◌*◌, ◌^◌, ◌≤◌, length, sum}
use Rattle.liveness.specs.Sweeps.{IsSweep}
use Rattle.liveness.proofs.sweep.improve.Given as goal

abbrev pub invariant-passes : goal.invariant-passes
invariant-passes l = record {
  sweep : IsSweep l.code l.flow l.sets;
  kept : sum l.initial.sets ≤ sum l.sets;
}

-- sets only grow, so their sum does
abbrev pub decreases-passes : goal.decreases-passes
decreases-passes l = length l.sets * 2 ^ 128 - sum l.sets
