use Rattle.allocate.proofs.Costing.{free_from}
use Rattle.allocate.proofs.priced.costs_nothing.Goals as goal

pub returns-then-walk : goal.returns-then-walk
returns-then-walk c = λ none code from priced. free_from code from c.args.walk.now priced c.if-walk.true (c.are_nothing.ensures none)
