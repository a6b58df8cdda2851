use Rattle.std.proofs.Common.{◌+◌, List, sym, ◌∙◌, subst, arith}
use Rattle.range_colour.specs.declared.fit.Fit.{Fit}
use Rattle.allocate.specs.Fits.{TellsRegions, TellsWhole}
use Rattle.allocate.specs.Tables.{Costs}
use Rattle.allocate.proofs.Costing.{lesser_cell}
use Rattle.allocate.proofs.row_costs.cell_cost.Goals as goal

pub returns-clause-cost : goal.returns-clause-cost
returns-clause-cost c code are known walk order reach =
    let r = c.args.from + c.args.j in
    let out = subst (TellsWhole code c.args.p r) (sym c.fits.ensures ∙ c.if-fits.false) (are.whole c.args.p r order (omega arith)) in
    let tells = subst (λ (fs : List Fit). TellsRegions code c.args.p r c.args.j fs c.args.costs.now) (sym c.as_slice.ensures) (known c.args.j c.args.p c.requires.within order (omega arith)) in
    subst (Costs code c.args.p r) (sym c.lesser_cost.ensures)
    (lesser_cell code c.args.p r c.region_cost.result c.args.walked out (c.region_cost.ensures.some code tells) (c.region_cost.ensures.none code c.args.walked tells c.requires.above) walk)
