use Rattle.std.proofs.Common.{◌+◌}
use Rattle.allocate.proofs.region_costs.region_costs.Goals as goal

pub returns-then-dearer-clause-costs : goal.returns-then-dearer-clause-costs
returns-then-dearer-clause-costs c j p less order few = c.in_ok-dearer.ensures.dearer c.if-dearer.true p (c.args.from + j)
