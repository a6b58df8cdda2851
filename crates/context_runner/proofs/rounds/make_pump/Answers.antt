use Rattle.context_runner.proofs.Pumping.{pump_moves}
use Rattle.context_runner.proofs.rounds.make_pump.Goals as goal

pub returns-clause-moved : goal.returns-clause-moved
returns-clause-moved g c =
    pump_moves c.args.run.now c.pump.new.self c.args.slots.now c.pump.new.slots c.pump.result c.requires.quiet c.requires.goes c.requires.next c.requires.nobody c.pump.ensures.did
