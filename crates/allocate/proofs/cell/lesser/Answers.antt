use Rattle.allocate.proofs.Costing.{walk_cell}
use Rattle.allocate.proofs.cell.lesser.Goals as goal

pub returns-then-tell_dearer-clause-cell : goal.returns-then-tell_dearer-clause-cell
returns-then-tell_dearer-clause-cell c =
    let walk = c.requires.walk in (
      c.args.walked.cost,
      walk_cell c.args.program.now.code c.args.p c.args.r c.args.walked.cost c.args.walked.plan c.requires.out walk.walk walk.cost (c.tell_dearer.ensures c.if-tell_dearer.true c.args.p c.args.r),
    )
