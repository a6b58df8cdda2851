use Rattle.std.proofs.Common.{length, arith}
use Rattle.emit.proofs.Pricing.{costs_are, few_most}
use Rattle.emit.proofs.edge_costs.costs_between.Goals as goal

pub returns : goal.returns
returns c =
    let most = few_most (length c.args.pairs.now) c.requires.few in
    let with_free = c.costs-with_free.ensures.few_with_free in
    let without = c.costs-with_free.ensures.few_without in
    costs_are c.args.pairs.now c.unnamed.result c.costs-with_free.result.with_free c.costs-with_free.result.without c.unnamed.ensures (omega arith) (omega arith) c.costs-with_free.ensures.with_free c.costs-with_free.ensures.without
