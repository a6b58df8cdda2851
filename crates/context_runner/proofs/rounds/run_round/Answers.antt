use Rattle.context_runner.proofs.Going.{moved_more}
use Rattle.context_runner.proofs.rounds.run_round.Goals as goal

pub moves-preserved : goal.moves-preserved
moves-preserved g c =
    let m = c.make_move-last in
    moved_more c.args.run c.moves.run m.new.run c.args.slots c.moves.slots m.new.slots c.moves.last m.result c.moves.invariant m.ensures.moved m.ensures.stays m.ensures.fits m.ensures.last
