use Rattle.std.proofs.Common.{sym, subst}
use Rattle.allocate.specs.Items.{AreClosed}
use Rattle.allocate.proofs.Zipping.{all_closed}
use Rattle.allocate.proofs.fit.budgeted_plans.Goals as goal

pub plans_of-requires-clause-closed : goal.plans_of-requires-clause-closed
plans_of-requires-clause-closed c = subst AreClosed (sym c.as_slice.ensures) (all_closed c.args.bundle.now c.requires.formed)
