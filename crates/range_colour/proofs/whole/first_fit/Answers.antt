use Rattle.std.proofs.Common.{ℕ, List, subst}
use Rattle.std.specs.Prelude.{IfOk, IfSome}
use Rattle.micro_isa.specs.declared.program.Line.{Line}
use Rattle.flow_graph.specs.Paths.{Edge}
use Rattle.range_colour.specs.PlacedPlans.{IsWholeFit, MovesNothing}
use Rattle.range_colour.proofs.Unique.{whole_once}
use Rattle.range_colour.proofs.whole.first_fit.Goals as goal

pub returns-clause-fit : goal.returns-clause-fit
returns-clause-fit c = subst (λ (code : List Line). IfOk c.whole_plan.result (IsWholeFit code c.args.p c.args.r)) c.as_slice.ensures c.whole_plan.ensures.fit

pub returns-clause-still : goal.returns-clause-still
returns-clause-still c =
    subst (λ (code : List Line). IfOk c.whole_plan.result (λ found. IfSome found (λ plan. (i j : ℕ) → Edge code i j → MovesNothing code plan i j)))
    c.as_slice.ensures c.whole_plan.ensures.still

pub returns-clause-once : goal.returns-clause-once
returns-clause-once c = whole_once c.args.program.now.code c.args.p c.args.r
