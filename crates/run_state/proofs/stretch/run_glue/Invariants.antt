use Rattle.std.proofs.Common.{◌≡◌, ◌-◌, ◌≤◌, Option, length, drop}
use Rattle.semantics.specs.Stretches.{ActiveContext, uncounted}
use Rattle.run_state.specs.Running.{kind_by, context_at}
use Rattle.run_state.proofs.stretch.run_glue.Given as goal

abbrev pub invariant-lines : goal.invariant-lines
invariant-lines g l =
    (g.V.Registers.holds l.values ≡ g.V.Registers.holds l.fn.values)
    × (l.at ≤ length l.code)
    × ((jump : ActiveContext g.row.R.Denot g.V.Registers.Values → ActiveContext g.row.R.Denot g.V.Registers.Values) (pending : Option g.row.R.Denot) → uncounted (kind_by g.L.CodeLine.numbered g.V.Registers.reads g.V.Registers.writes) l.context l.memory jump (drop l.at l.code) (context_at l.at (g.V.Registers.values l.values) pending) ≡ uncounted (kind_by g.L.CodeLine.numbered g.V.Registers.reads g.V.Registers.writes) l.context l.memory jump (drop l.fn.at l.code) (context_at l.fn.at (g.V.Registers.values l.fn.values) pending))

abbrev pub decreases-lines : goal.decreases-lines
decreases-lines g l = length l.code - l.at
