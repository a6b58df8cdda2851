use Rattle.std.proofs.Common.{sym, ◌∙◌}
use Rattle.edge_moves.proofs.Marks.{first_here}
use Rattle.edge_moves.proofs.remaining.first_free.Goals as goal

pub returns-then-not-sources-target : goal.returns-then-not-sources-target
returns-then-not-sources-target c =
    first_here _ _ _ c.places-test.true (sym (c.requires.exact _) ∙ c.if-not-sources-target.true) c.places.invariant
