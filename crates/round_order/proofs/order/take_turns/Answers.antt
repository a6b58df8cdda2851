use Rattle.std.proofs.Common.{sym, subst, ◌∙◌, Some}
use Rattle.round_order.specs.Journals.{IsRunSoFar, IsTurn}
use Rattle.round_order.proofs.Rounds.{turn_more}
use Rattle.round_order.proofs.order.take_turns.Goals as goal

pub turns-preserved : goal.turns-preserved
turns-preserved g c =
    let t = c.turn-entry in
    let i = c.turns.invariant in
    let before = g.I.Interpreter.config c.args.run.now in
    let now = g.I.Interpreter.config c.turns.run in
    let after = g.I.Interpreter.config t.new.run in
    let rules = g.I.Interpreter.rules c.args.run.now in
    let turned = subst (λ s. IsTurn s now after t.result) i.0 t.ensures.turn in (
      t.ensures.rules ∙ i.0,
      subst (λ es. IsRunSoFar rules before after c.args.entries.items es (Some c.next_context-context.result)) (sym c.in_ok-note.ensures)
          (turn_more rules before now after c.args.entries.items c.turns.entries.items c.turns.last c.next_context-context.result t.result i.1 c.next_context-context.ensures.next t.ensures.goes_on turned t.ensures.ran c.next_context-context.ensures.small),
    )
