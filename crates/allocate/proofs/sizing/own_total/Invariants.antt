use Rattle.std.proofs.Common.{◌≡◌, ◌+◌, drop}
use Rattle.std.specs.List.{sum_by}
use Rattle.allocate.proofs.sizing.own_total.Given as goal

abbrev pub invariant-loop-part : goal.invariant-loop-part
invariant-loop-part l = l.total + sum_by (λ part. part.private) (drop l.part-index l.parts) ≡ sum_by (λ part. part.private) l.parts
