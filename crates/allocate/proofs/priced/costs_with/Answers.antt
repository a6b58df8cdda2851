use Rattle.allocate.proofs.Costing.{walk_costs_are}
use Rattle.allocate.proofs.priced.costs_with.Goals as goal

pub returns-clause-costs : goal.returns-clause-costs
returns-clause-costs c = walk_costs_are c.args.program.now.code c.args.p c.args.part.all c.in_ok-made.made c.in_ok-made.ensures.priced c.in_ok-made.ensures.rows
