use Rattle.std.proofs.Common.{sym, subst}
use Rattle.emit.specs.Tables.{AreSmall, HasPlaces}
use Rattle.emit.proofs.after.places_of_row.Goals as goal

pub fill-requires : goal.fill-requires
fill-requires c =
    record { small = subst AreSmall (sym c.places_at.ensures) c.requires }

pub returns : goal.returns
returns c =
    subst (λ qs. HasPlaces qs c.fill.new.table) c.places_at.ensures c.fill.ensures
