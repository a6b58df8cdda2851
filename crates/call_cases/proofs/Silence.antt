-- A script without words may be made.
use Rattle.std.proofs.Common.{ℕ, zero, suc, replicate}
use Rattle.ports.specs.declared.port.Polled.TheVariants as polled
use Rattle.ports.specs.Answers.{closes_for_good}

pub silent_closes : (times : ℕ) → closes_for_good (replicate times polled.Empty)
silent_closes zero = tt
silent_closes (suc n) = (tt, silent_closes n)
