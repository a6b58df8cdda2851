use Rattle.std.proofs.Common.{subst}
use Rattle.commands.specs.Allocating.{IsAllocated}
use Rattle.commands.proofs.Replaying.{replay_tells, replay_served}
use Rattle.commands.proofs.journals.perform_on_journal.Goals as goal

pub returns-in-Fits-clause-tells : goal.returns-in-Fits-clause-tells
returns-in-Fits-clause-tells c =
    replay_tells c.args.task c.steps_of-steps.result c.replay_allocated.result c.args.bundle.now c.args.journal.now c.in-Fits.allocation c.steps_of-steps.ensures
    (subst (IsAllocated c.args.bundle.now) c.in-Fits.is c.in_ok-allocation.ensures) c.replay_allocated.ensures

pub returns-in-Fits-clause-served : goal.returns-in-Fits-clause-served
returns-in-Fits-clause-served c =
    replay_served c.args.task c.steps_of-steps.result c.replay_allocated.result c.args.bundle.now c.args.journal.now c.in-Fits.allocation c.steps_of-steps.ensures
    (subst (IsAllocated c.args.bundle.now) c.in-Fits.is c.in_ok-allocation.ensures) c.replay_allocated.ensures
