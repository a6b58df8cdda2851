use Rattle.std.proofs.Common.{subst}
use Rattle.commands.specs.Allocating.{IsAllocated}
use Rattle.commands.proofs.Preparing.{run_is_told}
use Rattle.commands.proofs.bundle_images.run_bundle.Goals as goal

pub returns-in_ok-open_allocated-in-Fits : goal.returns-in_ok-open_allocated-in-Fits
returns-in_ok-open_allocated-in-Fits c =
    run_is_told c.args.steps c.args.bundle.now c.in-Fits.allocation c.in_ok-open_allocated-in-Fits.field-0
    (subst (IsAllocated c.args.bundle.now) c.in-Fits.is c.in_ok-allocation.ensures) c.in_ok-open_allocated-in-Fits.ensures
