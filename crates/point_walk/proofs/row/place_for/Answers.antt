use Rattle.std.proofs.Common.{refl, sym, subst, arith}
use Rattle.liveness.specs.Sets.{members}
use Rattle.std.specs.Prelude.{ℕ, Option, Some}
use Rattle.point_walk.specs.Walks.{IsPlaceFor}
use Rattle.point_walk.proofs.Slots.{room_for_all}
use Rattle.point_walk.proofs.row.place_for.Goals as goal

pub returns-in-None-clause-place : goal.returns-in-None-clause-place
returns-in-None-clause-place c = subst (λ (o : Option ℕ). IsPlaceFor (members 128 c.args.stay.own) c.args.places.now o (Some c.least_free.result)) (sym c.in-None.is) (
  c.least_free.result,
  refl,
  record {
    free = λ k has at. let one = (c.requires.taken.bits c.least_free.result).1 (k, has, at) in let off = c.least_free.ensures.free in absurd (omega arith);
    least = λ y less. (c.requires.taken.bits y).0 (c.least_free.ensures.least y less);
  },
)

pub returns-in-None-clause-low : goal.returns-in-None-clause-low
returns-in-None-clause-low c =
    room_for_all c.args.places.now c.least_free.result c.args.register.0 c.requires.table c.requires.small c.in-None.is
    (λ y less. let at = (c.requires.taken.bits y).0 (c.least_free.ensures.least y less) in (at.0, at.2))
