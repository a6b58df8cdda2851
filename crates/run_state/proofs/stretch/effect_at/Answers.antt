use Rattle.std.proofs.Common.{sym, ◌∙◌}
use Rattle.run_state.proofs.stretch.effect_at.Goals as goal

pub line_effect-requires-clause-can : goal.line_effect-requires-clause-can
line_effect-requires-clause-can g c =
    c.requires.runs.each c.args.at c.in-Some.line (sym c.line_at.ensures ∙ c.in-Some.is)
