use Rattle.plan.proofs.Lists.{listed_more}
use Rattle.plan.proofs.listing.listed_set.Goals as goal

pub entries-preserved : goal.entries-preserved
entries-preserved c = listed_more _ _ _ _ _ c.entries-test.true c.entries.invariant c.alone-set.ensures
