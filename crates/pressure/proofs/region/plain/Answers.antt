use Rattle.std.proofs.Common.{refl, arith}
use Rattle.pressure.proofs.Numbering.{plain_more, plain_all}
use Rattle.pressure.proofs.region.plain.Goals as goal

pub places-preserved : goal.places-preserved
places-preserved c = plain_more _ _ _ _ _ _ (omega arith) refl c.or_none.ensures c.in-Ok.ensures.ok c.places.invariant

pub returns : goal.returns
returns c = plain_all _ _ _ (omega arith) c.places.invariant
