use Rattle.std.proofs.Common.{ℕ, ◌+◌, ◌<◌, ◌≤◌, List}
use Rattle.micro_isa.specs.declared.program.Line.{Line}
use Rattle.allocate.specs.Fits.{AreFitsOf, AreRegionCosts}
use Rattle.allocate.specs.Tables.{Costs}
use Rattle.allocate.proofs.row_costs.are_free.Given as goal

abbrev pub invariant-loop-j : goal.invariant-loop-j
invariant-loop-j l = (code : List Line) → AreFitsOf code l.fits → AreRegionCosts code l.part.all l.fits.regions l.costs → (k : ℕ) → k < l.j → l.p ≤ l.part.all + k → l.part.all + k ≤ l.most → Costs code l.p (l.part.all + k) 0
