use Rattle.std.proofs.Common.{List, sym, ◌∙◌, subst}
use Rattle.budget.specs.declared.TheConstants.{SIZES}
use Rattle.micro_isa.specs.declared.program.Line.{Line}
use Rattle.range_colour.specs.Fits.{IsFit}
use Rattle.range_colour.specs.Groups.{Every}
use Rattle.allocate.specs.Tables.{AreRows}
use Rattle.allocate.proofs.Filling.{free_rows}
use Rattle.allocate.proofs.table.cells_of.Goals as goal

pub returns-then-fits-clause-cells : goal.returns-then-fits-clause-cells
returns-then-fits-clause-cells c =
    let code = c.args.program.now.code in
    let fit = subst (λ (l : List Line). IsFit l Every c.in_ok-whole.whole) c.as_slice.ensures c.in_ok-whole.ensures in
    let rows = free_rows code c.args.live.now c.in_ok-whole.whole c.args.part c.args.most c.requires.closed c.requires.live fit c.requires.most (sym c.fits.ensures ∙ c.if-fits.true) in
    subst (AreRows code c.args.part c.args.most SIZES) (sym c.in_ok-cells.ensures) rows

pub returns-then-fits-clause-kept : goal.returns-then-fits-clause-kept
returns-then-fits-clause-kept c = (
  subst (λ (l : List Line). IsFit l Every c.in_ok-whole.whole) c.as_slice.ensures c.in_ok-whole.ensures,
  sym c.fits.ensures ∙ c.if-fits.true,
)
