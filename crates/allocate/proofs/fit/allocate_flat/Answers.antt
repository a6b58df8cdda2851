use Rattle.std.proofs.lemmas.Result.{IfOk-weaker}
use Rattle.allocate.specs.Allocations.{IsAllocation, IsEven, IsStill}
use Rattle.allocate.proofs.Even.{is_even, is_still}
use Rattle.allocate.proofs.fit.allocate_flat.Goals as goal

pub returns-in-Ok-clause-even : goal.returns-in-Ok-clause-even
returns-in-Ok-clause-even c =
    IfOk-weaker c.fit.result (IsAllocation c.args.bundle.now) IsEven (λ a is. is_even c.args.bundle.now a c.requires is) c.fit.ensures.allocation

pub returns-in-Ok-clause-still : goal.returns-in-Ok-clause-still
returns-in-Ok-clause-still c =
    IfOk-weaker c.fit.result (IsAllocation c.args.bundle.now) (IsStill c.args.bundle.now) (λ a is. is_still c.args.bundle.now a c.requires is) c.fit.ensures.allocation
