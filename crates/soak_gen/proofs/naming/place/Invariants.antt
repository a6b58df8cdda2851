use Rattle.std.proofs.Common.{◌≡◌, ◌+◌, drop}
use Rattle.soak_gen.specs.Bundles.{place}
use Rattle.soak_gen.proofs.naming.place.Given as goal

abbrev pub invariant-loop-at : goal.invariant-loop-at
invariant-loop-at l = l.at + place (drop l.at l.order) l.name ≡ place l.order l.name
