use Rattle.std.proofs.Common.{sym, ◌∙◌, subst}
use Rattle.std.specs.Prelude.{slice_index}
use Rattle.allocate.specs.Fits.{TellsRegions}
use Rattle.allocate.proofs.Costing.{dearer_none, dearer_out}
use Rattle.allocate.proofs.region_costs.region_cost.Goals as goal

pub returns-in-RunOut-clause-none : goal.returns-in-RunOut-clause-none
returns-in-RunOut-clause-none c code walked tells above none =
    dearer_none code c.args.p c.args.r walked (subst (TellsRegions code c.args.p c.args.r c.args.j c.args.fits.now) c.in-RunOut.is tells)

pub returns-in-Exact-clause-none : goal.returns-in-Exact-clause-none
returns-in-Exact-clause-none c code walked tells above none =
    let known = subst (TellsRegions code c.args.p c.args.r c.args.j c.args.fits.now) c.in-Exact.is tells in
    dearer_out code c.args.p c.args.r c.args.fits.now walked c.all_fit.result (slice_index c.in-Exact.costs c.args.j) c.all_fit.ensures (sym c.cost_if.ensures ∙ none) known.0
