use Rattle.std.proofs.Common.{◌≡◌, ◌+◌, ◌*◌, ◌≤◌}
use Rattle.soak_gen.specs.Bundles.{with_contexts}
use Rattle.soak_gen.proofs.contexts.made_contexts.Given as goal

abbrev pub invariant-loop-context : goal.invariant-loop-context
invariant-loop-context l = (l.all ≡ with_contexts l.context l.initial.all) × (l.all.line ≤ 4 + 1608 * l.context)
