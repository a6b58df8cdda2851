use Rattle.liveness.specs.Sweeps.{IsSweep, HasGrown}
use Rattle.liveness.proofs.sweep.pass.Given as goal

abbrev pub invariant-places : goal.invariant-places
invariant-places l = record {
  sweep : IsSweep l.code l.flow l.sets;
  grown : HasGrown l.initial.sets l.sets l.grew;
}
