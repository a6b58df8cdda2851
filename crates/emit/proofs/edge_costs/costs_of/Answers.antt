use Rattle.std.proofs.Common.{arith}
use Rattle.std.specs.Prelude.{slice_index}
use Rattle.emitted.specs.Edges.{pairs_from}
use Rattle.emit.proofs.Pricing.{nothing_costs, single_costs}
use Rattle.emit.proofs.edge_costs.costs_of.Goals as goal

pub returns-then-moves-eq0 : goal.returns-then-moves-eq0
returns-then-moves-eq0 c =
    let moves = c.requires.moves in
    let none = c.if-moves-eq0.true in
    nothing_costs (pairs_from (λ k. slice_index c.args.after.now k) c.args.next.now) (omega arith)

pub returns-then-moves-eq1 : goal.returns-then-moves-eq1
returns-then-moves-eq1 c =
    let moves = c.requires.moves in
    let one = c.if-moves-eq1.true in
    single_costs (pairs_from (λ k. slice_index c.args.after.now k) c.args.next.now) (omega arith)
