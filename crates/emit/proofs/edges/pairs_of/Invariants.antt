use Rattle.std.proofs.Common.{◌≡◌, ◌++◌, drop}
use Rattle.std.specs.Prelude.{slice_index}
use Rattle.emitted.specs.Edges.{pairs_from}
use Rattle.emit.proofs.edges.pairs_of.Given as goal

abbrev pub invariant-loop-listed : goal.invariant-loop-listed
invariant-loop-listed l =
    l.pairs.items ++ pairs_from (λ k. slice_index l.after k) (drop l.listed-index l.next) ≡ pairs_from (λ k. slice_index l.after k) l.next
