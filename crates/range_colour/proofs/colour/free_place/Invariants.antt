use Rattle.std.proofs.Common.{ℕ, ◌<◌, slice_index}
use Rattle.range_colour.specs.Settling.{In}
use Rattle.range_colour.proofs.colour.free_place.Given as goal

abbrev pub invariant-places : goal.invariant-places
invariant-places l = (q : ℕ) → q < l.place → (j : ℕ) × In (slice_index l.taken q) j × In l.others j
