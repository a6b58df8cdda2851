use Rattle.std.proofs.Common.{subst, ◌≡◌}
use Rattle.std.proofs.lemmas.List.{drop_all}
use Rattle.std.specs.Int.{bit_at}
use Rattle.plan.proofs.Lists.{IsLeastSoFar, least_found}
use Rattle.plan.proofs.listing.first_extra.Goals as goal

pub returns : goal.returns
returns c =
    least_found (λ k. bit_at c.args.set k ≡ 1) c.args.places.now c.entries.above c.entries.least
    (subst (λ rest. IsLeastSoFar (λ k. bit_at c.args.set k ≡ 1) c.args.places.now rest c.entries.above c.entries.least)
    (drop_all c.entries.place-index c.args.places.now c.entries-test.false) c.entries.invariant)
