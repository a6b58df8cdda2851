use Rattle.plan.proofs.Enough.{enough}
use Rattle.plan.proofs.check.check_plan.Goals as goal

pub returns-clause-enough : goal.returns-clause-enough
returns-clause-enough c =
    enough c.args.program.now.code c.args.plan.now c.first_fault.result c.requires.closed.some (rw (← c.as_slice.ensures) c.first_fault.ensures)
