use Rattle.pressure.specs.Rings.{LinkOf}
use Rattle.pressure.specs.Floods.{Floods, weight}
use Rattle.pressure.proofs.flood.flood.Given as goal

abbrev pub invariant-visits : goal.invariant-visits
invariant-visits l = Floods (LinkOf l.falls l.jumps) l.start l.number l.fn.numbers l.numbers l.waiting.items

abbrev pub decreases-visits : goal.decreases-visits
decreases-visits l = weight l.numbers l.waiting.items
