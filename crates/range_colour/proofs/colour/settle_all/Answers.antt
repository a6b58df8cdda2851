use Rattle.range_colour.proofs.Settled.{settled_wide}
use Rattle.std.proofs.Common.{arith}
use Rattle.range_colour.proofs.colour.settle_all.Goals as goal

pub registers-preserved : goal.registers-preserved
registers-preserved c = record {
  settled = c.in_ok-above.ensures.settled c.args.done c.args.places.now (c.requires.done c.registers.k) c.registers.invariant.settled;
  few = let a = c.in_ok-above.ensures.few in let b = c.registers.invariant.few in omega arith;
}

pub returns-clause-settled : goal.returns-clause-settled
returns-clause-settled c =
    settled_wide _ _ _ c.registers.k 128 _ _ _ _ (λ k member. let low = c.width-k-end.ensures.above k member in omega arith) (omega arith) c.registers.invariant.settled
