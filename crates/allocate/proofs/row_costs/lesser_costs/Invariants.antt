use Rattle.std.proofs.Common.{◌≡◌, ℕ, ◌+◌, ◌<◌, ◌≤◌, List, length}
use Rattle.std.specs.Prelude.{slice_index}
use Rattle.micro_isa.specs.declared.program.Line.{Line}
use Rattle.budget.specs.declared.TheConstants.{MOST_COST, SIZES}
use Rattle.allocate.specs.Fits.{AreFitsOf, AreRegionCosts}
use Rattle.allocate.specs.Tables.{AreSmall, AreWalkCosts, Costs}
use Rattle.allocate.proofs.row_costs.lesser_costs.Given as goal

abbrev pub invariant-loop-j : goal.invariant-loop-j
invariant-loop-j l = record {
  long : length l.cells ≡ SIZES;
  costs : (code : List Line) → AreFitsOf code l.fits → AreRegionCosts code l.part.all l.fits.regions l.costs → AreWalkCosts code l.p l.part.all l.walked
      → (k : ℕ) → k < l.j → l.p ≤ l.part.all + k → l.part.all + k ≤ l.most → Costs code l.p (l.part.all + k) (slice_index l.cells k);
  small : AreSmall l.walked → (k : ℕ) → slice_index l.cells k ≤ MOST_COST;
}
