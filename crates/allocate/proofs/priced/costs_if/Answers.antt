use Rattle.allocate.proofs.Costing.{walk_costs_are}
use Rattle.allocate.proofs.priced.costs_if.Goals as goal

pub returns-then-serves-clause-costs : goal.returns-then-serves-clause-costs
returns-then-serves-clause-costs c = λ code p from priced has. walk_costs_are code p from c.args.walk.now priced (has c.if-serves.true)

pub returns-then-serves-clause-small : goal.returns-then-serves-clause-small
returns-then-serves-clause-small c = λ code from priced. priced.small
