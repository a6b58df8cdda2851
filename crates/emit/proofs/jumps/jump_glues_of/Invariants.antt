use Rattle.std.proofs.Common.{◌≡◌, ◌+◌, ◌*◌, ◌<◌, ◌≤◌, ℕ}
use Rattle.std.specs.Prelude.{slice_index}
use Rattle.budget.specs.declared.TheConstants.{SIZES}
use Rattle.emit.specs.Addressed.{glue_before}
use Rattle.emit.specs.Limits.{most_line_glue}
use Rattle.emit.specs.Sized.{with_places}
use Rattle.emit.proofs.jumps.jump_glues_of.Given as goal

abbrev pub invariant-loop-i : goal.invariant-loop-i
invariant-loop-i l = record {
  numbers : (j : ℕ) → j < SIZES → slice_index l.glues j ≡ glue_before l.code (with_places l.plan (l.from + j)) l.i;
  few : (j : ℕ) → slice_index l.glues j ≤ most_line_glue * l.i;
}
