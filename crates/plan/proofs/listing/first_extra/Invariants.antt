use Rattle.std.proofs.Common.{◌≡◌, drop}
use Rattle.std.specs.Int.{bit_at}
use Rattle.plan.proofs.Lists.{IsLeastSoFar}
use Rattle.plan.proofs.listing.first_extra.Given as goal

abbrev pub invariant-entries : goal.invariant-entries
invariant-entries l = IsLeastSoFar (λ k. bit_at l.set k ≡ 1) l.places (drop l.place-index l.places) l.above l.least
