use Rattle.std.proofs.Common.{below_more, arith}
use Rattle.range_colour.proofs.Bits.{apart_bits, common_bit}
use Rattle.range_colour.proofs.colour.free_place.Goals as goal

pub returns-then-taken-place-eq0 : goal.returns-then-taken-place-eq0
returns-then-taken-place-eq0 c = record {
  within = omega arith;
  before = c.places.invariant;
  free = λ j less one two. apart_bits _ _ j c.if-taken-place-eq0.true one two;
}

pub places-preserved : goal.places-preserved
places-preserved c = below_more _ _ c.places.invariant (common_bit _ c.args.others (c.type_inv.taken c.places.place).fits c.if-taken-place-eq0.false)
