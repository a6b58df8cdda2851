use Rattle.std.proofs.Common.{◌≡◌, map, take}
use Rattle.report_check.proofs.facts.pressures_in.Given as goal

abbrev pub invariant-loop-facts : goal.invariant-loop-facts
invariant-loop-facts l = l.parts ≡ map (λ facts. facts.pressure) (take l.facts-index l.all)
