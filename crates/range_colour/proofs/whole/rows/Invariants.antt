use Rattle.std.specs.Prelude.{slice_index}
use Rattle.range_colour.proofs.Planning.{IsPlacedTo}
use Rattle.range_colour.proofs.whole.rows.Given as goal

abbrev pub invariant-lines : goal.invariant-lines
invariant-lines l = IsPlacedTo l.code l.fn.empty.p l.fn.empty.r l.i (λ k. slice_index l.places) l.plan
