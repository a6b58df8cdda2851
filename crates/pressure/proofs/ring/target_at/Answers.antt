use Rattle.std.proofs.Common.{sym, ◌∙◌}
use Rattle.pressure.proofs.Ringing.{no_target}
use Rattle.pressure.proofs.ring.target_at.Goals as goal

pub returns-then-switches : goal.returns-then-switches
returns-then-switches c = no_target _ _ _ _ (sym c.switches.ensures ∙ c.if-switches.true)
