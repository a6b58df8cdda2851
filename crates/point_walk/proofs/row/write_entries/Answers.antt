use Rattle.std.proofs.Common.{ap, arith, length, refl, ◌∙◌}
use Rattle.std.proofs.lemmas.List.{length-set}
use Rattle.liveness.proofs.Sizes.{length_members, size_le}
use Rattle.point_walk.proofs.Slots.{entry_more}
use Rattle.point_walk.proofs.row.write_entries.Goals as goal

pub registers-init : goal.registers-init
registers-init c = record {
  written = refl;
  size = c.told-line;
  few = let size = length_members 128 c.args.registers in let few = size_le 128 c.args.registers in omega arith;
}

pub registers-preserved : goal.registers-preserved
registers-preserved c =
    let least = c.in-Some.ensures in
    let fewer = ap length least.1 in
    let size = c.registers.invariant.size in
    let few = c.registers.invariant.few in record {
      written = entry_more c.registers.line c.registers.count c.in-Some.register c.place_of-place.result c.args.places.now _ _ _ (omega arith) least.1 c.place_of-place.ensures c.registers.invariant.written;
      size = length-set c.registers.line c.registers.count _ ∙ size;
      few = omega arith;
    }
