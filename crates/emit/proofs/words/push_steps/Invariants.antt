use Rattle.std.proofs.Common.{◌≡◌, ◌++◌, drop, map}
use Rattle.micro_isa.specs.declared.limits.TheConstants.{MOST_FILE}
use Rattle.edge_moves.specs.Within.{StepsWithin}
use Rattle.emitted.specs.Words.{step_word}
use Rattle.emit.specs.Layouts.{register_at}
use Rattle.emit.proofs.words.push_steps.Given as goal

abbrev pub invariant-loop-step : goal.invariant-loop-step
invariant-loop-step l =
    StepsWithin MOST_FILE (drop l.step-index l.steps)
    × (l.words ++ map (step_word (register_at l.layout)) (drop l.step-index l.steps) ≡ l.initial.words ++ map (step_word (register_at l.layout)) l.steps)
