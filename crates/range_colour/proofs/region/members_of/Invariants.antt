use Rattle.pressure.specs.Regions.{numbers_in}
use Rattle.range_colour.specs.Regional.{IsGroupedTo}
use Rattle.range_colour.proofs.region.members_of.Given as goal

abbrev pub invariant-places : goal.invariant-places
invariant-places l = IsGroupedTo (numbers_in l.regions) l.most l.i l.groups.items
