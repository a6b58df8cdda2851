use Rattle.std.proofs.Common.{sym, subst}
use Rattle.liveness.specs.Sets.{members}
use Rattle.liveness.proofs.Sizes.{member_set}
use Rattle.point_walk.specs.Walks.{Table}
use Rattle.point_walk.specs.Tables.{ArePlacesOf}
use Rattle.point_walk.specs.Keeping.{AreAmong}
use Rattle.point_walk.proofs.Rows.{given_among}
use Rattle.point_walk.proofs.Seated.{taken_places}
use Rattle.point_walk.proofs.row.give_anew.Goals as goal

pub returns-clause-among : goal.returns-clause-among
returns-clause-among c =
    subst (λ (t : Table). AreAmong t (members 128 c.args.before)) (sym c.copy_from_slice.ensures.after)
    (given_among c.args.p c.args.table.now (members 128 c.args.before) (members 128 c.args.cross) c.give_places-taken.new.places (λ k has. (member_set 128 c.args.before k has).0) c.requires.crossing c.give_places-taken.ensures.given)

pub returns-clause-places : goal.returns-clause-places
returns-clause-places c =
    subst (λ (t : Table). ArePlacesOf (members 128 c.args.before) t c.give_places-taken.result) (sym c.copy_from_slice.ensures.after)
    (taken_places c.give_places-taken.new.places c.give_places-taken.result (members 128 c.args.before) c.give_places-taken.ensures.taken
    (given_among c.args.p c.args.table.now (members 128 c.args.before) (members 128 c.args.cross) c.give_places-taken.new.places (λ k has. (member_set 128 c.args.before k has).0) c.requires.crossing c.give_places-taken.ensures.given))
