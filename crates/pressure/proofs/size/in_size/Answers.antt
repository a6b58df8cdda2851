use Rattle.std.proofs.Common.{subst, arith, sym}
use Rattle.liveness.proofs.Sizes.{sized}
use Rattle.liveness.specs.Sets.{IsSetOf}
use Rattle.liveness.specs.Liveness.{LiveIn}
use Rattle.pressure.proofs.size.in_size.Goals as goal

pub returns-clause-exact : goal.returns-clause-exact
returns-clause-exact c =
    sized _ _ (omega arith) (subst (λ set. IsSetOf (LiveIn c.args.code.now c.args.i) set) (sym c.live_in.ensures) (c.requires.is_live.live_in _ c.requires.here))
