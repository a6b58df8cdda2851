use Rattle.std.proofs.Common.{sym, ◌∙◌}
use Rattle.range_colour.proofs.Planning.{whole_none}
use Rattle.range_colour.proofs.whole.whole_plan.Goals as goal

pub returns-then-not-fits-clause-fit : goal.returns-then-not-fits-clause-fit
returns-then-not-fits-clause-fit c =
    whole_none c.args.code.now c.in_ok-fit.fit c.args.p c.args.r c.in_ok-fit.ensures c.requires.order c.requires.few (sym c.fits.ensures ∙ c.if-not-fits.true)
