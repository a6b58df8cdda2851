use Rattle.context_runner.proofs.SharedTurns.{pumped_is}
use Rattle.context_runner.proofs.bench.pump_of.Goals as goal

pub returns-clause-pumped : goal.returns-clause-pumped
returns-clause-pumped g c =
    pumped_is c.pump.result c.args.run.now c.pump.new.self c.args.slots.now c.pump.new.slots c.pump.ensures.known c.engine-engine.ensures.quiet c.pump.ensures.did
