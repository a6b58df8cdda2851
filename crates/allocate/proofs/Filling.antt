-- Cells are filled in row by row.
use Rattle.std.proofs.Common.{◌≡◌, ℕ, zero, suc, ◌+◌, ◌*◌, ◌-◌, ◌<◌, ◌≤◌, true, List, [], ◌++◌, replicate, length, length-append, refl, sym, ap, ◌∙◌, subst, arith, inl, inr}
use Rattle.std.specs.Prelude.{slice_index}
use Rattle.std.proofs.lemmas.Bool.{cases_lt}
use Rattle.std.proofs.lemmas.Bool.Decides.{nat_tests}
use Rattle.std.proofs.lemmas.List.{get_or_append_left, length-replicate}
use Rattle.std.proofs.Math.Seq.{get_or-append_right}
use Rattle.micro_isa.specs.declared.limits.TheConstants.{MOST_FILE}
use Rattle.budget.specs.declared.TheConstants.{SIZES}
use Rattle.micro_isa.specs.declared.program.Line.{Line}
use Rattle.flow_graph.specs.Paths.{IsClosedCode}
use Rattle.liveness.specs.declared.live.Live.{Live}
use Rattle.liveness.specs.Lives.{IsLiveOf}
use Rattle.pressure.specs.declared.pressure_of.Pressure.{Pressure}
use Rattle.pressure.specs.Pressures.{IsPressureOf}
use Rattle.range_colour.specs.declared.fit.Fit.{Fit}
use Rattle.range_colour.specs.Fits.{IsFit}
use Rattle.range_colour.specs.Groups.{Every}
use Rattle.range_colour.specs.Regional.{fits_test}
use Rattle.allocate.specs.Fits.{TellsWhole}
use Rattle.allocate.specs.Tables.{AreRowCosts, AreRows, AreSmall, Costs, IsTabled}
use Rattle.allocate.proofs.Existing.{whole_tells}

pub no_rows : (code : List Line) (part : Pressure) (most : ℕ) → AreRows code part most 0 []
no_rows code part most = record { long = refl; small = λ j. omega arith; rows = λ i j less. absurd (omega arith) }

-- a row was appended
pub row_more : (code : List Line) (part : Pressure) (most i : ℕ) (cells added : List ℕ) → AreRows code part most i cells → length added ≡ SIZES → AreRowCosts code part (part.private + i) most added → AreSmall added
    → AreRows code part most (i + 1) (cells ++ added)
row_more code part most i cells added rows eight costs small =
    let long = length-append cells added in
    let number = rows.long in record {
      long = omega arith;
      small = λ k. elim (cases_lt k (length cells)) [
        | inl less ↦ rw (get_or_append_left cells added 0 k less) (rows.small k)
        | inr more ↦ rw (get_or-append_right cells added k 0 more) (small (k - length cells))
      ];
      rows = λ h j less col order reach. elim (cases_lt h i) [
        | inl before ↦
            let inside : h * SIZES + j < length cells = omega arith in
            rw (get_or_append_left cells added 0 (h * SIZES + j) inside) (rows.rows h j before col order reach)
        | inr last ↦
            let same : h ≡ i = omega arith in
            let outside : length cells ≤ h * SIZES + j = omega arith in
            let at : h * SIZES + j - length cells ≡ j = omega arith in
            let is : slice_index (cells ++ added) (h * SIZES + j) ≡ slice_index added j = get_or-append_right cells added (h * SIZES + j) 0 outside ∙ ap (slice_index added) at in
            let cost = costs j col (let o = order in omega arith) reach in
            rw is (subst (λ n. Costs code (part.private + n) (part.all + j) (slice_index added j)) (sym same) cost)
      ];
    }

pub zeros : (n k : ℕ) → slice_index (replicate n 0) k ≡ 0
zeros zero k = refl
zeros (suc n) zero = refl
zeros (suc n) (suc k) = zeros n k

-- where the fit over the whole program serves the least sizes it serves all
pub free_rows : (code : List Line) (live : Live) (fit : Fit) (part : Pressure) (most : ℕ) → IsClosedCode code → IsLiveOf code live → IsFit code Every fit → most ≤ MOST_FILE
    → fits_test fit part.private part.all ≡ true → AreRows code part most SIZES (replicate (SIZES * SIZES) 0)
free_rows code live fit part most closed is fits few all = record {
  long = length-replicate {A = ℕ} (SIZES * SIZES) 0;
  small = λ k. rw (zeros (SIZES * SIZES) k) (omega arith);
  rows = λ i j less col order reach.
      let more : fits_test fit (part.private + i) (part.all + j) ≡ true = grind (arith, nat_tests) in
      let tells = whole_tells code live fit (part.private + i) (part.all + j) closed is fits order (omega arith) in
      let found = subst (TellsWhole code (part.private + i) (part.all + j)) more tells in
      rw (zeros (SIZES * SIZES) (i * SIZES + j)) (found.0, inl (record { fit = found.1; free = refl }));
}

pub is_tabled : (code : List Line) (part : Pressure) (spare : ℕ) (cells : List ℕ) → IsPressureOf code part → part.private ≤ part.all → part.all ≤ MOST_FILE → AreRows code part (part.private + spare) SIZES cells
    → IsTabled spare code (record { private = part.private; all = part.all; cells = cells })
is_tabled code part spare cells exact order few rows = record {
  pressure = part;
  exact = exact;
  private = refl;
  all = refl;
  is = record { order = order; few = few; whole = rows.long; small = λ i j less col le. rows.small (i * SIZES + j) };
  cells = λ i j less col le reach. rows.rows i j less col le reach;
}
