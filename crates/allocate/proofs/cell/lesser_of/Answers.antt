use Rattle.std.proofs.Common.{arith}
use Rattle.allocate.proofs.Costing.{dearer_plan, region_cell, walk_cell}
use Rattle.allocate.proofs.cell.lesser_of.Goals as goal

pub returns-then-cost-walked-clause-cell : goal.returns-then-cost-walked-clause-cell
returns-then-cost-walked-clause-cell c =
    let walk = c.requires.walk in (
      c.in_ok-cost.cost,
      region_cell c.args.program.now.code c.args.p c.args.r c.in_ok-cost.cost c.args.walked.cost c.args.fitted c.args.walked.plan c.requires.out c.requires.fit c.in_ok-cost.ensures.number walk.walk walk.cost (let low = c.if-cost-walked.true in omega arith),
    )

pub returns-else-cost-walked-clause-cell : goal.returns-else-cost-walked-clause-cell
returns-else-cost-walked-clause-cell c =
    let code = c.args.program.now.code in
    let walk = c.requires.walk in (
      c.args.walked.cost,
      walk_cell code c.args.p c.args.r c.args.walked.cost c.args.walked.plan c.requires.out walk.walk walk.cost
          (dearer_plan code c.args.p c.args.r c.in_ok-cost.cost c.args.walked.cost c.args.fitted c.requires.fit c.in_ok-cost.ensures.number (let high = c.if-cost-walked.false in omega arith)),
    )
