use Rattle.std.proofs.Common.{ℕ, ◌≡◌, ◌<◌, length, slice_index}
use Rattle.range_colour.proofs.whole.all_of.Given as goal

abbrev pub invariant-places : goal.invariant-places
invariant-places l = record {
  whole : length l.list ≡ l.i;
  each : (k : ℕ) → k < l.i → slice_index l.list k ≡ k;
}
