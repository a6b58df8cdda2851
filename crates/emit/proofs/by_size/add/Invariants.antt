use Rattle.std.proofs.Common.{◌≡◌, ◌+◌, ◌<◌, ◌≤◌, ℕ}
use Rattle.std.specs.Prelude.{slice_index}
use Rattle.emit.specs.Limits.{most_line_glue}
use Rattle.emit.specs.Sized.{glue_with}
use Rattle.emit.proofs.by_size.add.Given as goal

abbrev pub invariant-loop-j : goal.invariant-loop-j
invariant-loop-j l = record {
  more : (k : ℕ) → k < l.j → slice_index l.glues k ≡ slice_index l.initial.glues k + glue_with l.fall l.jump (l.from + k);
  same : (k : ℕ) → l.j ≤ k → slice_index l.glues k ≡ slice_index l.initial.glues k;
  few : (k : ℕ) → slice_index l.glues k ≤ slice_index l.initial.glues k + most_line_glue;
}
