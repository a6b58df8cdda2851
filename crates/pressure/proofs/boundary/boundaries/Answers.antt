use Rattle.std.proofs.Common.{subst, arith, sym, ◌∙◌, ◌≡◌, length}
use Rattle.pressure.specs.Boundaries.{AreBoundaries}
use Rattle.pressure.proofs.Switching.{AreBoundariesBelow, switching, quiet, all_below}
use Rattle.pressure.proofs.boundary.boundaries.Goals as goal
use Rattle.pressure.proofs.boundary.boundaries.Goals.{then-switches+in-Ok, else-switches}

pub lines-preserved : goal.lines-preserved
lines-preserved c =
    elim c.if-switches.branch [
      | then-switches+in-Ok w ↦
          rw w.list-is (switching _ _ _ _ _ w.in-Ok.ensures.ok c.lines-test.true (sym c.switches.ensures ∙ w.if-switches.true) c.lines.invariant)
      | else-switches w ↦ rw w.list-is (quiet _ _ _ _ (sym c.switches.ensures ∙ w.if-switches.false) c.lines.invariant)
    ]

pub returns : goal.returns
returns c =
    let whole : c.lines.i ≡ length c.as_slice-code.result.now = omega arith in
    let below = subst (λ n. AreBoundariesBelow c.as_slice-code.result.now n c.lines.list) whole c.lines.invariant in
    subst (λ code. AreBoundaries code c.lines.list) c.as_slice-code.ensures (all_below _ _ below)
