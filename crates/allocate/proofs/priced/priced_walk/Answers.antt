use Rattle.std.proofs.Common.{sym, subst, arith}
use Rattle.allocate.specs.Tables.{HasRows}
use Rattle.allocate.proofs.Costing.{rows_of_walk}
use Rattle.allocate.proofs.priced.priced_walk.Goals as goal

pub returns-clause-priced : goal.returns-clause-priced
returns-clause-priced c =
    let code = c.args.program.now.code in
    let route = c.in_ok-route.route in
    let walked = c.in_ok-route.ensures.walked in record {
      rows = subst (λ n. HasRows code n route.plan) (sym walked.private) (rows_of_walk code c.args.p c.args.most route.plan walked);
      lasting = c.in_ok-route.ensures.lasting;
      costs = c.in_ok-costs.ensures.numbers;
      small = λ j. let few = c.in_ok-costs.ensures.few j in omega arith;
    }

pub returns-clause-rows : goal.returns-clause-rows
returns-clause-rows c = rows_of_walk c.args.program.now.code c.args.p c.args.most c.in_ok-route.route.plan c.in_ok-route.ensures.walked

pub returns-clause-own : goal.returns-clause-own
returns-clause-own c = c.in_ok-route.ensures.walked.private
