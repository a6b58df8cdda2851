use Rattle.context_runner.proofs.Turning.{turn_moves, turn_last}
use Rattle.context_runner.proofs.Going.{not_over}
use Rattle.context_runner.proofs.rounds.take_turn.Goals as goal

pub returns-clause-moved : goal.returns-clause-moved
returns-clause-moved g c =
    let goes = not_over c.args.run.now.engine.core c.args.run.now.idle c.requires.goes in
    turn_moves c.turn.result c.args.run.now c.turn.new.self c.args.slots.now c.turn.new.slots c.args.context goes c.requires.can c.requires.next c.turn.ensures.answered c.turn.ensures.did

pub returns-clause-ran : goal.returns-clause-ran
returns-clause-ran g c =
    let goes = not_over c.args.run.now.engine.core c.args.run.now.idle c.requires.goes in
    turn_last c.turn.result c.args.run.now c.turn.new.self c.args.slots.now c.turn.new.slots c.args.context goes c.requires.can c.turn.ensures.answered c.turn.ensures.did
