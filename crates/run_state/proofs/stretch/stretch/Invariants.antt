use Rattle.std.proofs.Common.{◌≡◌, ◌-◌, ◌≤◌, length}
use Rattle.semantics.specs.Stretches.{stretch, counted_from}
use Rattle.semantics.proofs.Stretching.{later}
use Rattle.run_state.specs.Running.{kind_by, context_at}
use Rattle.run_state.proofs.stretch.stretch.Given as goal

abbrev pub invariant-steps : goal.invariant-steps
invariant-steps g l =
    (g.V.Registers.holds l.values ≡ g.V.Registers.holds l.fn.values)
    × (l.steps ≤ l.left)
    × (l.at ≤ length l.code)
    × (later l.steps (counted_from (kind_by g.L.CodeLine.numbered g.V.Registers.reads g.V.Registers.writes) l.context l.memory l.code (l.left - l.steps) (context_at l.at (g.V.Registers.values l.values) l.place.pending)) ≡ stretch (kind_by g.L.CodeLine.numbered g.V.Registers.reads g.V.Registers.writes) l.context l.memory l.code l.left (context_at l.place.at (g.V.Registers.values l.fn.values) l.place.pending))

abbrev pub decreases-steps : goal.decreases-steps
decreases-steps g l = l.left - l.steps
