use Rattle.range_colour.proofs.rows.write_place.Goals as goal

pub bounds-places-k : goal.bounds-places-k
bounds-places-k c = c.requires.inside c.in-Some.field-0.0 c.in-Some.is
