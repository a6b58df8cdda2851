use Rattle.pressure.proofs.Greatest.{in_order}
use Rattle.pressure.proofs.pressure_of.pressures.Goals as goal

pub returns-clause-order : goal.returns-clause-order
returns-clause-order c =
    let total = c.total_pressure.ensures in
    in_order _ _ _ (rw c.as_slice-code.ensures c.requires.closed.some) c.private_pressure.ensures total.exact total.stay
