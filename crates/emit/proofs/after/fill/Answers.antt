use Rattle.std.proofs.Common.{◌-◌, length, get_or, refl, sym, subst, arith}
use Rattle.std.proofs.lemmas.List.{drop_all}
use Rattle.plan.specs.declared.row.Place.{Place}
use Rattle.emit.specs.Tables.{HasPlaces}
use Rattle.emit.proofs.Filling.{nothing_listed, fill_next, small_at}
use Rattle.emit.proofs.after.fill.Goals as goal

pub loop-i-init : goal.loop-i-init
loop-i-init c =
    subst (λ qs. HasPlaces qs c.args.table.now) (sym (drop_all (length c.args.places.now - 0) c.args.places.now (omega arith))) (nothing_listed c.args.table.now)

pub loop-i-preserved : goal.loop-i-preserved
loop-i-preserved c =
    let lt = c.loop-i-test.true in
    let none : Place = record { register = record { 0 = 0 }; place = 0 } in
    let at = length c.args.places.now - 1 - c.loop-i.i in
    let small = small_at c.args.places.now at none c.requires.small (omega (arith, lt)) in
    fill_next c.loop-i.table c.args.places.now c.loop-i.i (get_or c.args.places.now at none) none lt refl (omega (arith, small, c.told-table)) c.loop-i.invariant
