use Rattle.std.proofs.Common.{◌≡◌, ℕ, ◌<◌, slice_index}
use Rattle.range_colour.proofs.group.clear.Given as goal

abbrev pub invariant-registers : goal.invariant-registers
invariant-registers l = (k : ℕ) → k < l.set-index → slice_index l.meets k ≡ 0
