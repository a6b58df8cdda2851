use Rattle.std.proofs.Common.{Some, None, true, false, refl, sym, subst, ◌≤◌, length, ◌∙◌}
use Rattle.edge_moves.specs.Costs.{most_steps, CostsByCycle}
use Rattle.edge_moves.proofs.CostLaw.{cost_is, cost_law, cost_few}
use Rattle.edge_moves.proofs.counting.costs.Goals as goal

pub returns-clause-with_free : goal.returns-clause-with_free
returns-clause-with_free c = λ free h. c.both_counted.ensures.with_free ∙ cost_is c.args.pairs.now true c.requires (Some free) h refl

pub returns-clause-without : goal.returns-clause-without
returns-clause-without c = c.both_counted.ensures.without ∙ cost_is c.args.pairs.now false c.requires None tt refl

pub returns-clause-law_with_free : goal.returns-clause-law_with_free
returns-clause-law_with_free c = subst (CostsByCycle c.args.pairs.now true) (sym c.both_counted.ensures.with_free) (cost_law c.args.pairs.now true c.requires)

pub returns-clause-law_without : goal.returns-clause-law_without
returns-clause-law_without c = subst (CostsByCycle c.args.pairs.now false) (sym c.both_counted.ensures.without) (cost_law c.args.pairs.now false c.requires)

pub returns-clause-few_with_free : goal.returns-clause-few_with_free
returns-clause-few_with_free c = subst (λ k. k ≤ most_steps (length c.args.pairs.now)) (sym c.both_counted.ensures.with_free) (cost_few c.args.pairs.now true c.requires)

pub returns-clause-few_without : goal.returns-clause-few_without
returns-clause-few_without c = subst (λ k. k ≤ most_steps (length c.args.pairs.now)) (sym c.both_counted.ensures.without) (cost_few c.args.pairs.now false c.requires)
