use Rattle.std.proofs.Common.{Option, subst}
use Rattle.std.specs.Prelude.{IfSome}
use Rattle.allocate.specs.declared.priced.PricedWalk.{PricedWalk}
use Rattle.allocate.specs.Tables.{IsPriced}
use Rattle.allocate.proofs.priced.kept_costs.Goals as goal

pub returns-in-Some-clause-costs : goal.returns-in-Some-clause-costs
returns-in-Some-clause-costs c = λ code from priced.
    let is = subst (λ (o : Option PricedWalk). IfSome o (IsPriced code from)) c.in-Some.is priced in
    c.costs_if.ensures.costs code c.args.p from is (λ serves. c.serves.ensures serves code from is)

pub returns-in-Some-clause-small : goal.returns-in-Some-clause-small
returns-in-Some-clause-small c = λ code from priced.
    c.costs_if.ensures.small code from (subst (λ (o : Option PricedWalk). IfSome o (IsPriced code from)) c.in-Some.is priced)
