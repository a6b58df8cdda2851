use Rattle.std.proofs.Common.{subst}
use Rattle.commands.specs.Allocating.{IsAllocated, IsItsOwn}
use Rattle.commands.proofs.Soaking.{soak_tells}
use Rattle.commands.proofs.soaks.soak.Goals as goal

pub returns-in-Fits : goal.returns-in-Fits
returns-in-Fits c =
    let own : IsItsOwn c.in_ok-bundle.bundle c.in-Fits.allocation = subst (IsAllocated c.in_ok-bundle.bundle) c.in-Fits.is c.in_ok-allocation.ensures in
    soak_tells c.args.number c.soak_allocated.result c.in-Fits.allocation
    (subst (λ b. IsItsOwn b c.in-Fits.allocation) c.in_ok-bundle.ensures.bundle own) c.soak_allocated.ensures
