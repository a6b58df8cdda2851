use Rattle.std.proofs.Common.{arith}
use Rattle.std.specs.Prelude.{slice_index}
use Rattle.emitted.specs.Edges.{pairs_from}
use Rattle.emit.proofs.Filling.{still_there}
use Rattle.emit.proofs.Pricing.{nothing_costs}
use Rattle.emit.proofs.edge_costs.costs_of_move.Goals as goal

pub returns-then-moves-eq0-clause-costs : goal.returns-then-moves-eq0-clause-costs
returns-then-moves-eq0-clause-costs c =
    let moves = c.count_moves-moves.ensures in
    let none = c.if-moves-eq0.true in
    nothing_costs (pairs_from (λ k. slice_index c.args.table.now k) c.args.next.now) (omega arith)

pub returns-then-moves-eq0-clause-places : goal.returns-then-moves-eq0-clause-places
returns-then-moves-eq0-clause-places c =
    let moves = c.count_moves-moves.ensures in
    let none = c.if-moves-eq0.true in
    still_there c.args.table.now c.args.next.now (omega arith)
