use Rattle.std.proofs.Common.{ap, arith, length, refl, ◌∙◌}
use Rattle.std.proofs.lemmas.List.{length-set}
use Rattle.liveness.proofs.Sizes.{length_members, size_le}
use Rattle.range_colour.proofs.Placing.{entry_each, entry_more, taken_member}
use Rattle.range_colour.proofs.rows.write_entries.Goals as goal

pub bounds-places-register : goal.bounds-places-register
bounds-places-register c = c.requires.inside _ (taken_member _ c.args.set _ _ _ c.registers.invariant.registers c.in-Some.ensures.1)

pub overflow_cast-place-in-Some : goal.overflow_cast-place-in-Some
overflow_cast-place-in-Some c = record { fits = c.requires.small _ (taken_member _ c.args.set _ _ _ c.registers.invariant.registers c.in-Some.ensures.1) }

pub registers-init : goal.registers-init
registers-init c = record {
  registers = refl;
  places = λ q has. absurd (let inside = has.1 in omega arith);
  size = c.told-line;
  few = let size = length_members 128 c.args.set in let few = size_le 128 c.args.set in omega arith;
}

pub registers-preserved : goal.registers-preserved
registers-preserved c =
    let least = c.in-Some.ensures in
    let fewer = ap length least.1 in
    let size = c.registers.invariant.size in
    let few = c.registers.invariant.few in record {
      registers = entry_more c.registers.line c.registers.count _ _ _ _ (omega arith) least.1 c.registers.invariant.registers;
      places = entry_each _ c.registers.line c.registers.count _ (omega arith) c.registers.invariant.places refl;
      size = length-set c.registers.line c.registers.count _ ∙ size;
      few = omega arith;
    }
