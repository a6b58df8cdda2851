use Rattle.std.proofs.Common.{◌-◌, ◌*◌, ◌^◌, length, sum}
use Rattle.liveness.specs.Sweeps.{IsSweep}
use Rattle.liveness.proofs.sweep.settle.Given as goal

abbrev pub invariant-rounds : goal.invariant-rounds
invariant-rounds l = IsSweep l.code l.flow l.sets

-- sets only grow, so their sum does
abbrev pub decreases-rounds : goal.decreases-rounds
decreases-rounds l = length l.sets * 2 ^ 128 - sum l.sets
