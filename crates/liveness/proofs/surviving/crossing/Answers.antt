use Rattle.std.proofs.Common.{◌≡◌}
use Rattle.liveness.specs.Liveness.{LiveIn}
use Rattle.liveness.specs.Surviving.{SwitchesAt, Stays}
use Rattle.liveness.proofs.Sizes.{union}
use Rattle.liveness.proofs.surviving.crossing.Goals as goal

pub returns : goal.returns
returns c =
    union (λ k. SwitchesAt c.args.code.now c.args.i × Stays c.args.code.now c.args.i k) (λ k. (c.args.i ≡ 0) × LiveIn c.args.code.now 0 k)
    c.switch_survivors.result c.entering.result c.switch_survivors.ensures c.entering.ensures
