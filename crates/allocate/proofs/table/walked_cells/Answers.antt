use Rattle.std.proofs.Common.{sym, subst}
use Rattle.budget.specs.declared.TheConstants.{SIZES}
use Rattle.allocate.specs.Tables.{AreRows}
use Rattle.allocate.proofs.Unpriced.{walked_rows}
use Rattle.allocate.proofs.table.walked_cells.Goals as goal

pub returns-clause-cells : goal.returns-clause-cells
returns-clause-cells c =
    let code = c.args.program.now.code in
    subst (AreRows code c.args.part c.args.most SIZES) (sym c.in_ok-cells.ensures)
    (walked_rows code c.args.live.now _ _ c.args.part c.args.most c.requires.closed c.requires.live c.in_ok-is_dearer.ensures.fits c.in_ok-is_dearer.ensures.dearer c.in_ok-is_dearer.ensures.whole c.requires.most (c.in_ok-free.ensures.free c.if-not-free.false))
