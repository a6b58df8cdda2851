use Rattle.std.proofs.Common.{◌≡◌, ◌<◌, ℕ, length, slice_index}
use Rattle.liveness.specs.Sweeps.{IsOutSet}
use Rattle.liveness.proofs.live.out_list.Given as goal

abbrev pub invariant-lines : goal.invariant-lines
invariant-lines l = record {
  as_many : length l.outs ≡ l.i;
  each : (k : ℕ) → k < l.i → IsOutSet l.code l.ins k (slice_index l.outs k);
}
