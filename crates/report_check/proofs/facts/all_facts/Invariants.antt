use Rattle.std.proofs.Common.{◌≡◌, length, take}
use Rattle.std.specs.List.{All}
use Rattle.pressure.specs.Pressures.{IsPart}
use Rattle.report_check.specs.Facts.{AreAllFacts}
use Rattle.report_check.proofs.facts.all_facts.Given as goal

abbrev pub invariant-loop-program : goal.invariant-loop-program
invariant-loop-program l = record {
  exact : AreAllFacts (take l.program-index l.programs) l.all;
  one_each : length l.all ≡ l.program-index;
  parts : All (λ facts. IsPart facts.pressure) l.all;
}
