use Rattle.std.proofs.Common.{ℕ, ◌≡◌, [], vec_len}
use Rattle.std.specs.Prelude.{slice_index_or}
use Rattle.range_colour.proofs.region.empty_groups.Given as goal

abbrev pub invariant-groups : goal.invariant-groups
invariant-groups l = record {
  whole : vec_len l.groups ≡ l._g;
  none : (g : ℕ) → slice_index_or l.groups.items g [] ≡ [];
}
