-- What a row says, as a plan tells it and as an edge reads it.
use Rattle.std.proofs.Common.{◌≡◌, Option, Some, None, refl}
use Rattle.plan.specs.declared.row.PlanRow.{PlanRow}
use Rattle.plan.specs.Rows.{places_in, write_in}
use Rattle.emitted.specs.Edges.{row_in, place_or_zero}

pub same_places : (o : Option PlanRow) → places_in o ≡ (row_in o).places
same_places None = refl
same_places (Some row) = refl

pub same_write : (o : Option PlanRow) → place_or_zero (write_in o) ≡ place_or_zero (row_in o).write
same_write None = refl
same_write (Some row) = refl
