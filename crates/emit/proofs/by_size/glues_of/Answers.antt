use Rattle.emit.proofs.Filling.{row_small}
use Rattle.emit.proofs.by_size.glues_of.Goals as goal

pub places_of_row-table-requires : goal.places_of_row-table-requires
places_of_row-table-requires c = row_small c.args.code.now c.args.plan.now 0 c.requires.closed c.requires.valid
