use Rattle.std.proofs.Common.{◌+◌, sym, subst}
use Rattle.budget.specs.declared.TheConstants.{SIZES}
use Rattle.allocate.specs.Tables.{Costs}
use Rattle.allocate.proofs.Filling.{zeros}
use Rattle.allocate.proofs.row_costs.row_costs.Goals as goal

pub returns-then-are_free-clause-costs : goal.returns-then-are_free-clause-costs
returns-then-are_free-clause-costs c j less order reach =
    subst (Costs c.args.program.now.code c.args.p (c.args.part.all + j)) (sym (zeros SIZES j)) (c.are_free.ensures.free c.if-are_free.true c.args.program.now.code c.requires.fits c.requires.known j less order reach)
