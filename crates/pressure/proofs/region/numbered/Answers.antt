use Rattle.std.proofs.Common.{arith}
use Rattle.pressure.proofs.Numbering.{none_numbered, numbered}
use Rattle.pressure.proofs.region.numbered.Goals as goal

pub places-init : goal.places-init
places-init c = record { numbered = none_numbered _ _ c.requires.nobody; few = omega arith }

pub returns : goal.returns
returns c = numbered _ _ _ _ _ (omega arith) c.places.invariant.numbered c.in_ok-numbers.ensures
