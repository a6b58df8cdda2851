use Rattle.std.proofs.Common.{subst}
use Rattle.allocate.specs.Tables.{IsFreeFrom}
use Rattle.allocate.proofs.priced.is_walk_free.Goals as goal

pub returns-clause-free : goal.returns-clause-free
returns-clause-free c = λ none.
    let code = c.args.program.now.code in
    subst (λ n. IsFreeFrom code n c.args.part.all) c.in_ok-made.ensures.own (c.costs_nothing-free.ensures none code c.args.part.all c.in_ok-made.ensures.priced)
