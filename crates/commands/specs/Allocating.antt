-- What the allocation of a bundle comes to.
use Rattle.micro_isa.specs.declared.program.Bundle.{Bundle}
use Rattle.emitted.specs.Emitted.{IsEmitted}
use Rattle.allocate.specs.declared.allocation.Allocation.{Allocation}
use Rattle.allocate.specs.Allocations.{IsAllocation, HasOneAllocation}
use Rattle.commands.specs.declared.no_fit.Allocated.{Allocated}
use Rattle.commands.specs.declared.no_fit.Allocated.TheVariants as comes
use Rattle.commands.specs.Tells.{DoesNotFit}

-- the bundle has this allocation and no other, whose image is emitted: it does what the bundle does
pub record IsItsOwn (b : Bundle) (a : Allocation) : Type 0 where
  pub allocated : IsAllocation b a
  pub only : HasOneAllocation b
  pub emitted : IsEmitted b a.plans a.budget a.image

-- the bundle's allocation; or its need is above its file, and the reply tells both
abbrev pub IsAllocated : Bundle → Allocated → Type 0
IsAllocated b (comes.Fits a) = IsItsOwn b a
IsAllocated b (comes.Short r) = DoesNotFit r.status b r.text.items
