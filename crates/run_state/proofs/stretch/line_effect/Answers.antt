use Rattle.std.proofs.Common.{None, sym, subst}
use Rattle.run_state.specs.Running.{CanRunOne, StaysWithin}
use Rattle.run_state.proofs.Running.{effect_stays}
use Rattle.run_state.proofs.stretch.line_effect.Goals as goal

pub returns-clause-stays : goal.returns-clause-stays
returns-clause-stays g c =
    let a = c.args in
    let holds = g.V.Registers.holds a.values.now in
    let can = subst (CanRunOne holds a.size) (sym c.instr.ensures) c.requires.can in
    subst (StaysWithin holds a.size) (sym (c.effect.ensures None))
    (effect_stays holds a.size a.context c.line.result c.instr.result _ a.memory.now _ c.requires.within can)
