use Rattle.std.proofs.Common.{◌<◌, take, Contains}
use Rattle.liveness.specs.Sets.{IsSetOf}
use Rattle.plan.specs.ValidPlans.{registers_of}
use Rattle.plan.proofs.listing.listed_set.Given as goal

abbrev pub invariant-entries : goal.invariant-entries
invariant-entries l = IsSetOf (λ k. (k < 128) × Contains (registers_of (take l.place-index l.places)) k) l.set
