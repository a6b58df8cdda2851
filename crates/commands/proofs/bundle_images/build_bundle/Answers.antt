use Rattle.std.proofs.Common.{subst}
use Rattle.commands.specs.Allocating.{IsAllocated}
use Rattle.commands.proofs.Telling.{build_tells}
use Rattle.commands.proofs.bundle_images.build_bundle.Goals as goal

pub returns-in-Fits : goal.returns-in-Fits
returns-in-Fits c =
    build_tells c.written.result c.args.bundle.now c.in-Fits.allocation
    (subst (IsAllocated c.args.bundle.now) c.in-Fits.is c.in_ok-allocation.ensures) c.written.ensures
