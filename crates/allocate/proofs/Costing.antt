-- What cells cost, by the costs of fits and of the walk.
use Rattle.std.proofs.Common.{◌≡◌, ℕ, ◌+◌, ◌<◌, ◌≤◌, ◌⊎◌, min, Bool, true, false, List, Option, Some, None, refl, sym, ap, subst, ◌∙◌, arith, inl, inr}
use Rattle.std.specs.Prelude.{IfSome, slice_index, if◌then◌else◌}
use Rattle.std.proofs.lemmas.Bool.{cases_lt}
use Rattle.micro_isa.specs.declared.limits.TheConstants.{MOST_FILE}
use Rattle.budget.specs.declared.TheConstants.{SIZES}
use Rattle.micro_isa.specs.declared.program.Line.{Line}
use Rattle.flow_graph.specs.Paths.{IsClosedCode}
use Rattle.pressure.specs.declared.region.Regions.{Regions}
use Rattle.pressure.specs.declared.pressure_of.Pressure.{Pressure}
use Rattle.pressure.specs.Pressures.{IsPressureOf}
use Rattle.pressure.specs.Regions.{AreRegionsOf}
use Rattle.pressure.proofs.Unique.{pressure_once}
use Rattle.plan.specs.declared.row.Plan.{Plan}
use Rattle.range_colour.specs.declared.fit.Fit.{Fit}
use Rattle.range_colour.specs.PlacedPlans.{IsWholeFit, IsRegionFit}
use Rattle.range_colour.specs.Regional.{AreFits, DoFit}
use Rattle.range_colour.proofs.Grouping.{region_none}
use Rattle.range_colour.proofs.Unique.{region_once}
use Rattle.point_walk.specs.Walks.{IsWalk}
use Rattle.point_walk.proofs.Once.{walk_once}
use Rattle.budget.specs.Costs.{clipped}
use Rattle.emitted.specs.Words.{glue_of}
use Rattle.emit.specs.Sized.{with_places}
use Rattle.allocate.specs.declared.fits.Fits.{Fits}
use Rattle.allocate.specs.declared.kept.Kept.{Kept}
use Rattle.allocate.specs.declared.priced.PricedWalk.{PricedWalk}
use Rattle.allocate.specs.Cells.{IsCell, IsCellOf, all_places}
use Rattle.allocate.specs.declared.region_costs.RegionCosts.TheVariants.{Exact}
use Rattle.allocate.specs.Fits.{AreAllThere, AreFitsOf, AreRegionCosts, IsDearer}
use Rattle.allocate.specs.Tables.{Costs, HasRows, IsCellPlan, IsFreeFrom, IsKept, IsKeptBy, IsPriced, IsRegionCost, AreWalkCosts, IsWalkCost, IsWalkKept, lesser_cost}
use Rattle.allocate.proofs.Still.{whole_no_glue}

module _ (code : List Line) (p r : ℕ) where
  -- the fit over each region costs no more than the walk
  pub region_cell : (cost other : ℕ) (plan walked : Plan) → IsWholeFit code p r None → IsRegionFit code p r (Some plan) → cost ≡ glue_of code plan
      → IsWalk code p r walked → other ≡ glue_of code walked → cost ≤ other → IsCell code p r cost plan
  region_cell cost other plan walked out fit glue walk walk_glue le = inr (inl (record {
    out = out;
    fit = fit;
    glue = glue;
    least = λ x is. let same = ap (glue_of code) (walk_once code p r x walked is walk) in omega arith;
  }))

  -- the walk costs less than any plan by the fits over the regions
  pub walk_cell : (other : ℕ) (walked : Plan) → IsWholeFit code p r None → IsWalk code p r walked → other ≡ glue_of code walked → IsDearer code p r other → IsCell code p r other walked
  walk_cell other walked out walk walk_glue dearer = inr (inr (record { out = out; walk = walk; glue = walk_glue; least = dearer }))

  -- the plan by the fits over the regions costs more
  pub dearer_plan : (cost other : ℕ) (plan : Plan) → IsRegionFit code p r (Some plan) → cost ≡ glue_of code plan → other < cost → IsDearer code p r other
  dearer_plan cost other plan fit glue less x is = let same = ap (glue_of code) (some_same x plan (region_once code p r (Some x) (Some plan) is fit)) in omega arith
    where
      some_same : (x y : Plan) → Some x ≡ Some y → x ≡ y
      some_same x y e = cc

  -- the fit over some region runs out
  pub dearer_none : (other : ℕ) → IsRegionFit code p r None → IsDearer code p r other
  dearer_none other none x is = absurd (let e = region_once code p r (Some x) None is none in cc)

  -- there is no cost since the fits do not fit
  pub dearer_out : (fits : List Fit) (other : ℕ) (b : Bool) (cost : ℕ) → DoFit fits p r b → (if b then Some cost else None) ≡ None → (DoFit fits p r false → IsRegionFit code p r None) → IsDearer code p r other
  dearer_out fits other true cost test none out = absurd (cc)
  dearer_out fits other false cost test none out = dearer_none other (out test)

  -- a plan by the fits over the regions that costs nothing
  pub free_cell : IsWholeFit code p r None → IsRegionCost code p r 0 → Costs code p r 0
  free_cell out region = (region.0, inr (inl (record { out = out; fit = region.1; glue = region.2; least = λ x is. let none = region.2 in omega arith })))

  -- the lesser of both
  pub lesser_cell : (found : Option ℕ) (walked : ℕ) → IsWholeFit code p r None → IfSome found (IsRegionCost code p r) → (found ≡ None → IsDearer code p r walked) → IsWalkCost code p r walked
      → Costs code p r (lesser_cost found walked)
  lesser_cell None walked out region dearer walk = (walk.0, walk_cell walked walk.0 out walk.1 walk.2 (dearer refl))
  lesser_cell (Some cost) walked out region dearer walk = elim (cases_lt walked cost) [
    | inl less ↦
        let is : walked ≡ min cost walked = omega arith in
        (walk.0, subst (λ n. IsCell code p r n walk.0) is (walk_cell walked walk.0 out walk.1 walk.2 (dearer_plan cost walked region.0 region.1 region.2 less)))
    | inr more ↦
        let is : cost ≡ min cost walked = omega arith in
        (region.0, subst (λ n. IsCell code p r n region.0) is (region_cell cost walked region.0 walk.0 out region.1 region.2 walk.1 walk.2 (omega arith)))
  ]

-- the first fits are all fits where so many are there
pub all_fits : (code : List Line) (fits : Fits) → AreFitsOf code fits → AreAllThere fits → AreFits code fits.division fits.regions
all_fits code fits are whole = record { one_each = whole; each = are.parts.each }

-- a cell costs its plan's glue
pub cell_glue : (code : List Line) (p r cost : ℕ) (plan : Plan) → IsClosedCode code → IsCell code p r cost plan → cost ≡ glue_of code plan
cell_glue code p r cost plan closed (inl one) = one.free ∙ sym (whole_no_glue code p r plan closed one.fit)
cell_glue code p r cost plan closed (inr (inl one)) = one.glue
cell_glue code p r cost plan closed (inr (inr one)) = one.glue

-- what runs out of more places runs out of fewer
pub region_out : (code : List Line) (p r m n : ℕ) → p ≤ m → r ≤ n → IsRegionFit code m n None → IsRegionFit code p r None
region_out code p r m n le_p le_r none =
    let out = none.2 in (
      none.0,
      none.1,
      (
        out.0,
        out.1,
        (
          out.2.0,
          out.2.1,
          elim out.2.2 [
            | inl cross ↦ inl (cross.0, let high = cross.1 in omega arith)
            | inr other ↦ inr (other.0, let high = other.1 in omega arith)
          ],
        ),
      ),
    )

-- one plan by the fits over the regions tells what they cost, whatever the number of places
pub region_costs_are : (code : List Line) (regions : Regions) (are : AreRegionsOf code regions) (fits : List Fit) (are_fits : AreFits code regions fits) (from : ℕ) (plan : Plan) (costs : List ℕ)
    → ((m n : ℕ) → m ≤ n → n ≤ MOST_FILE → DoFit fits m n true → IsRegionFit code m n (Some (record { p = m; r = n; rows = plan.rows })))
    → ((j : ℕ) → j < SIZES → slice_index costs j ≡ glue_of code (with_places plan (from + j))) → AreRegionCosts code from fits (Exact costs)
region_costs_are code regions are fits are_fits from plan costs serves numbers j p less order few = (
  λ out. region_none code regions are fits are_fits p (from + j) out,
  λ test. (record { p = p; r = from + j; rows = plan.rows }, serves p (from + j) order few test, numbers j less),
)

-- the walk of these rows costs what was counted
pub walk_costs_are : (code : List Line) (p from : ℕ) (walk : PricedWalk) → IsPriced code from walk → HasRows code p walk.route.plan → AreWalkCosts code p from walk.costs
walk_costs_are code p from walk priced rows j less = (record { p = p; r = from + j; rows = walk.route.plan.rows }, rows (from + j), priced.costs j less)

-- a walk serves its own number of private places, and more of them where it lasts
pub rows_serve : (code : List Line) (p from : ℕ) (walk : PricedWalk) → IsPriced code from walk → (p ≡ walk.route.plan.p) ⊎ ((walk.route.lasting ≡ true) × (walk.route.plan.p ≤ p)) → HasRows code p walk.route.plan
rows_serve code p from walk priced (inl same) = subst (λ n. HasRows code n walk.route.plan) (sym same) priced.rows
rows_serve code p from walk priced (inr more) = λ r. priced.lasting more.0 p r more.1

-- the rows of a walk serve whatever the number of places in all
pub rows_of_walk : (code : List Line) (p r : ℕ) (plan : Plan) → IsWalk code p r plan → HasRows code p plan
rows_of_walk code p r plan walk s = record { private = refl; all = refl; rows = walk.rows }

pub kept_as : (code : List Line) (part : Pressure) (kept : Kept) → IsPressureOf code part → IsKept code kept → IsKeptBy code part kept
kept_as code part kept exact is = subst (λ (q : Pressure). IsKeptBy code q kept) (pressure_once code is.pressure part is.exact exact) is.is

pub walk_kept_as : (code : List Line) (part : Pressure) (walk : Option PricedWalk) → IsPressureOf code part → IsWalkKept code walk → IfSome walk (IsPriced code part.all)
walk_kept_as code part walk exact is = subst (λ (q : Pressure). IfSome walk (IsPriced code q.all)) (pressure_once code is.pressure part is.exact exact) is.is

-- the cell of the places that are used of a size is the context's
pub chosen_cell : (code : List Line) (part : Pressure) (size shared m n : ℕ) (plan : Plan) → IsPressureOf code part → m ≡ clipped size part.private → n ≡ clipped (size + shared) part.all
    → IsCellPlan code (part.private + m) (part.all + n) plan → (cost : ℕ) × IsCellOf code size shared cost plan
chosen_cell code part size shared m n plan exact is_m is_n cell = (
  cell.0,
  record {
    pressure = part;
    exact = exact;
    cell = subst (λ k. IsCell code (part.private + k) (all_places part size shared) cell.0 plan) is_m (subst (λ k. IsCell code (part.private + m) (part.all + k) cell.0 plan) is_n cell.1);
  },
)

-- a walk that costs nothing and serves more private places
pub free_from : (code : List Line) (from : ℕ) (walk : PricedWalk) → IsPriced code from walk → walk.route.lasting ≡ true → ((j : ℕ) → j < SIZES → slice_index walk.costs j ≡ 0)
    → IsFreeFrom code walk.route.plan.p from
free_from code from walk priced lasting none p j order less = (record { p = p; r = from + j; rows = walk.route.plan.rows }, priced.lasting lasting p (from + j) order, sym (none j less) ∙ priced.costs j less)
