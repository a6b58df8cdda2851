use Rattle.std.proofs.Common.{◌+◌, List, refl, sym, ◌∙◌, subst, inl}
use Rattle.std.specs.Prelude.{IfSome}
use Rattle.range_colour.specs.declared.fit.Fit.{Fit}
use Rattle.allocate.specs.Fits.{TellsRegions, TellsWhole}
use Rattle.allocate.specs.Tables.{IsRegionCost}
use Rattle.allocate.proofs.Costing.{free_cell}
use Rattle.allocate.proofs.row_costs.is_free.Goals as goal

pub returns-then-fits : goal.returns-then-fits
returns-then-fits c = λ e code are known.
    let r = c.args.from + c.args.j in
    let whole = subst (TellsWhole code c.args.p r) (sym c.fits.ensures ∙ c.if-fits.true) (are.whole c.args.p r c.requires.order c.requires.few) in
    (whole.0, inl (record { fit = whole.1; free = refl }))

pub returns : goal.returns
returns c = λ none code are known.
    let r = c.args.from + c.args.j in
    let out = subst (TellsWhole code c.args.p r) (sym c.fits.ensures ∙ c.if-fits.false) (are.whole c.args.p r c.requires.order c.requires.few) in
    let tells = subst (λ (fs : List Fit). TellsRegions code c.args.p r c.args.j fs c.args.costs.now) (sym c.as_slice.ensures) (known c.args.j c.args.p c.requires.within c.requires.order c.requires.few) in
    free_cell code c.args.p r out (subst (λ o. IfSome o (IsRegionCost code c.args.p r)) (c.is_nothing.ensures none) (c.region_cost.ensures.some code tells))
