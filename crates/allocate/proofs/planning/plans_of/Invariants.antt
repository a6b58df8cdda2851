use Rattle.allocate.specs.Tables.{AreChosen, AreWalksKept}
use Rattle.allocate.proofs.planning.plans_of.Given as goal

abbrev pub invariant-loop-c : goal.invariant-loop-c
invariant-loop-c l = record {
  chosen : AreChosen l.programs l.sizes l.shared l.c l.plans;
  walks : AreWalksKept l.programs l.walks;
}
