use Rattle.std.specs.Prelude.{IfSome}
use Rattle.allocate.specs.Fits.{AreFitsOf, AreRegionCosts}
use Rattle.allocate.specs.Tables.{AreRows, IsPriced}
use Rattle.allocate.proofs.table.rows_of.Given as goal

abbrev pub invariant-loop-i : goal.invariant-loop-i
invariant-loop-i l = record {
  rows : AreRows l.program.code l.part l.most l.i l.cells;
  fits : AreFitsOf l.program.code l.fits;
  known : AreRegionCosts l.program.code l.part.all l.fits.regions l.costs;
  walk : IfSome l.walk (IsPriced l.program.code l.part.all);
}
