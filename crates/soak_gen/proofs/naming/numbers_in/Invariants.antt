use Rattle.std.proofs.Common.{◌≡◌, ◌<◌, ℕ, get_or, length}
use Rattle.soak_gen.specs.Bundles.{place}
use Rattle.soak_gen.proofs.naming.numbers_in.Given as goal

abbrev pub invariant-loop-name : goal.invariant-loop-name
invariant-loop-name l = ((k : ℕ) → k < l.name → get_or l.numbers k 0 ≡ place l.order k) × (length l.numbers ≡ 12)
