use Rattle.std.proofs.Common.{ℕ, List, Contains, sym, subst}
use Rattle.range_colour.proofs.Valid.{is_behind}
use Rattle.liveness.specs.Sets.{members}
use Rattle.allocate.proofs.moving.differ.Goals as goal

pub registers-preserved : goal.registers-preserved
registers-preserved c k has =
    c.registers.invariant k (subst (λ (ks : List ℕ). Contains ks k) (sym c.in-Some.ensures.1) (is_behind c.in-Some.register.0 (members 128 c.take_least.new.set) k has))
