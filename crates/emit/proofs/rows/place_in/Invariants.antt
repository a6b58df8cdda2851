use Rattle.std.proofs.Common.{◌≡◌, drop}
use Rattle.plan.specs.ValidPlans.{place_in}
use Rattle.emit.proofs.rows.place_in.Given as goal

abbrev pub invariant-loop-listed : goal.invariant-loop-listed
invariant-loop-listed l = place_in (drop l.listed-index l.places) l.register.0 ≡ place_in l.places l.register.0
