use Rattle.std.proofs.Common.{◌≤◌}
use Rattle.micro_isa.specs.declared.limits.TheConstants.{MOST_REGISTERS}
use Rattle.pressure.proofs.Greatest.{IsTotalBelow}
use Rattle.pressure.proofs.pressure_of.total_pressure.Given as goal

abbrev pub invariant-lines : goal.invariant-lines
invariant-lines l = record {
  below : IsTotalBelow l.code l.i l.greatest;
  few : l.greatest ≤ MOST_REGISTERS;
}
