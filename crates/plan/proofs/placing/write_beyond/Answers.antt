use Rattle.plan.proofs.Places.{written_beyond}
use Rattle.plan.proofs.placing.write_beyond.Goals as goal

pub returns-in-Some : goal.returns-in-Some
returns-in-Some c = rw c.not_below.ensures (written_beyond c.args.code.now c.args.r c.args.i c.args.write c.in-Some.written c.in-Some.ensures)

pub returns-in-None : goal.returns-in-None
returns-in-None c = λ k x at. absurd (c.in-None.ensures k x at)
