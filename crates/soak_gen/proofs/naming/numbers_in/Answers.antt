use Rattle.std.proofs.Common.{arith}
use Rattle.std.proofs.lemmas.List.FromFn.{fill_by_all}
use Rattle.soak_gen.specs.Bundles.{place}
use Rattle.soak_gen.proofs.naming.numbers_in.Goals as goal

pub returns : goal.returns
returns c = fill_by_all (place c.args.order.now) c.loop-name.numbers 12 0 c.loop-name.invariant.1 (λ k h. c.loop-name.invariant.0 k (omega arith))
