-- Where the walk costs nothing each cell costs nothing, whatever the fits over the regions cost.
use Rattle.std.proofs.Common.{◌≡◌, ℕ, zero, suc, ◌+◌, ◌*◌, ◌≤◌, min, Bool, true, false, List, [], ◌∷◌, Some, None, replicate, refl, subst, arith, inl}
use Rattle.std.specs.Prelude.{slice_get, slice_index}
use Rattle.std.proofs.lemmas.List.{length-replicate}
use Rattle.std.proofs.lemmas.Option.{same_Some}
use Rattle.micro_isa.specs.declared.limits.TheConstants.{MOST_FILE}
use Rattle.budget.specs.declared.TheConstants.{SIZES}
use Rattle.micro_isa.specs.declared.program.Line.{Line}
use Rattle.flow_graph.specs.Paths.{IsClosedCode}
use Rattle.liveness.specs.declared.live.Live.{Live}
use Rattle.liveness.specs.Lives.{IsLiveOf}
use Rattle.pressure.specs.declared.pressure_of.Pressure.{Pressure}
use Rattle.plan.specs.declared.row.Plan.{Plan}
use Rattle.range_colour.specs.declared.fit.Fit.{Fit}
use Rattle.range_colour.specs.PlacedPlans.{IsWholeFit}
use Rattle.range_colour.specs.Regional.{DoFit, fits_test, places_for}
use Rattle.range_colour.proofs.Grouping.{region_none, region_some}
use Rattle.emitted.specs.Words.{glue_of}
use Rattle.allocate.specs.declared.fits.Fits.{Fits}
use Rattle.allocate.specs.Fits.{AreAllThere, AreDearer, AreFitsOf, TellsWhole}
use Rattle.allocate.specs.Tables.{AreRows, Costs, IsFreeFrom, IsWalkCost}
use Rattle.allocate.proofs.Costing.{all_fits, dearer_none, lesser_cell, walk_cell}
use Rattle.allocate.proofs.Existing.{rows_there}
use Rattle.allocate.proofs.Filling.{zeros}

all_more : (f : Fit) (fits : List Fit) (p r : ℕ) → fits_test f p r ≡ true → ((g : ℕ) (fit : Fit) → slice_get fits g ≡ Some fit → fits_test fit p r ≡ true)
    → (g : ℕ) (fit : Fit) → slice_get (f ∷ fits) g ≡ Some fit → fits_test fit p r ≡ true
all_more f fits p r test rest zero fit is = subst (λ (x : Fit). fits_test x p r ≡ true) (same_Some f fit is) test
all_more f fits p r test rest (suc g) fit is = rest g fit is

-- all fits fit, or one doesn't
do_fit_there : (fits : List Fit) (p r : ℕ) → (b : Bool) × DoFit fits p r b
do_fit_there [] p r = (true, record { all = λ e g fit is. absurd (cc); some = λ e. absurd (cc) })
do_fit_there (f ∷ fits) p r = by (fits_test f p r) refl (do_fit_there fits p r)
  where
    by : (t : Bool) → fits_test f p r ≡ t → (b : Bool) × DoFit fits p r b → (b : Bool) × DoFit (f ∷ fits) p r b
    by false test rest = (false, record { all = λ e. absurd (cc); some = λ e. (0, f, refl, test) })
    by true test rest = (rest.0, record { all = λ e. all_more f fits p r test (rest.1.all e); some = λ e. let one = rest.1.some e in (suc one.0, one.1, one.2, one.3) })

-- where the fit over the whole program runs out and the walk costs nothing, the cell costs nothing
moved_cell : (code : List Line) (live : Live) (fits : Fits) (p r : ℕ) → IsClosedCode code → IsLiveOf code live → AreFitsOf code fits → AreAllThere fits → p ≤ r → r ≤ MOST_FILE
    → IsWholeFit code p r None → IsWalkCost code p r 0 → (b : Bool) → DoFit fits.regions p r b → Costs code p r 0
moved_cell code live fits p r closed is made whole order few out walk false test =
    lesser_cell code p r None 0 out tt (λ e. dearer_none code p r 0 (region_none code fits.division made.division fits.regions (all_fits code fits made whole) p r test)) walk
moved_cell code live fits p r closed is made whole order few out walk true test =
    let rows = rows_there code live (λ i. slice_index (places_for fits.division fits.regions i)) closed is in
    let plan : Plan = record { p = p; r = r; rows = rows.0 } in
    let fit = region_some code fits.division made.division fits.regions (all_fits code fits made whole) p r order few test plan (record { private = refl; all = refl; rows = rows.1 }) in
    let least : min (glue_of code plan) 0 ≡ 0 = omega arith in
    subst (Costs code p r) least (lesser_cell code p r (Some (glue_of code plan)) 0 out (plan, fit, refl) (λ e. absurd (cc)) walk)

-- no plan by the fits over the regions costs nothing, or all of these fits are there
zero_cell : (code : List Line) (live : Live) (fits : Fits) (dearer : Bool) (p r : ℕ) → IsClosedCode code → IsLiveOf code live → AreFitsOf code fits → (dearer ≡ true → AreDearer code 0)
    → (dearer ≡ false → AreAllThere fits) → p ≤ r → r ≤ MOST_FILE → IsWalkCost code p r 0 → Costs code p r 0
zero_cell code live fits dearer p r closed is made more all order few walk = by (fits_test fits.whole p r) (made.whole p r order few)
  where
    moved : (b : Bool) → dearer ≡ b → IsWholeFit code p r None → Costs code p r 0
    moved true e out = (walk.0, walk_cell code p r 0 walk.0 out walk.1 walk.2 (more e p r))
    moved false e out = let test = do_fit_there fits.regions p r in moved_cell code live fits p r closed is made (all e) order few out walk test.0 test.1

    by : (b : Bool) → TellsWhole code p r b → Costs code p r 0
    by true whole = (whole.0, inl (record { fit = whole.1; free = refl }))
    by false out = moved dearer refl out

pub walked_rows : (code : List Line) (live : Live) (fits : Fits) (dearer : Bool) (part : Pressure) (most : ℕ) → IsClosedCode code → IsLiveOf code live → AreFitsOf code fits
    → (dearer ≡ true → AreDearer code 0) → (dearer ≡ false → AreAllThere fits) → most ≤ MOST_FILE → IsFreeFrom code part.private part.all → AreRows code part most SIZES (replicate (SIZES * SIZES) 0)
walked_rows code live fits dearer part most closed is made more all few free = record {
  long = length-replicate {A = ℕ} (SIZES * SIZES) 0;
  small = λ k. rw (zeros (SIZES * SIZES) k) (omega arith);
  rows = λ i j less col order reach.
      let p = part.private + i in
      let r = part.all + j in
      rw (zeros (SIZES * SIZES) (i * SIZES + j)) (zero_cell code live fits dearer p r closed is made more all order (omega arith) (free p j (omega arith) col));
}
