use Rattle.std.proofs.Common.{◌≡◌}
use Rattle.soak_gen.specs.Drafts.{with_rows}
use Rattle.soak_gen.proofs.draft.put_rows.Given as goal

abbrev pub invariant-loop-row : goal.invariant-loop-row
invariant-loop-row l = l.draft ≡ with_rows l.row l.numbers l.initial.draft
