use Rattle.std.proofs.Common.{◌+◌, sym, subst}
use Rattle.allocate.specs.Tables.{AreRows}
use Rattle.allocate.proofs.Filling.{row_more}
use Rattle.allocate.proofs.table.rows_of.Goals as goal

pub loop-i-preserved : goal.loop-i-preserved
loop-i-preserved c =
    let code = c.args.program.now.code in
    let row = c.in_ok-row.row in record {
      rows = subst (AreRows code c.args.part c.args.most (c.loop-i.i + 1)) (sym c.in_ok-push_row.ensures.row)
          (row_more code c.args.part c.args.most c.loop-i.i c.loop-i.cells row c.loop-i.invariant.rows c.push_row.ensures.eight c.in_ok-row.ensures.costs c.in_ok-row.ensures.small);
      fits = c.in_ok-row.ensures.fits;
      known = c.in_ok-row.ensures.known;
      walk = c.row_costs.ensures.walk;
    }
