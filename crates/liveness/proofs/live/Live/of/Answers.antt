use Rattle.std.proofs.Common.{subst}
use Rattle.liveness.specs.Sweeps.{IsLive}
use Rattle.liveness.proofs.Visits.{lives_of}
use Rattle.liveness.proofs.live.Live.of.Goals as goal

pub returns : goal.returns
returns c =
    let live = subst (λ code. IsLive code c.in_ok-ins.ins) c.as_slice-code.ensures c.in_ok-ins.ensures in
    let outs = rw (c.as_slice-code.ensures, c.as_slice.ensures) at c.in_ok-outs.ensures in
    lives_of _ _ _ c.requires.closed live outs
