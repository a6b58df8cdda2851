use Rattle.std.proofs.Common.{subst, arith, sym, ◌∙◌, ◌≡◌, length}
use Rattle.pressure.proofs.Greatest.{IsPrivateBelow, private_begun, private_switching, private_quiet, private_done}
use Rattle.pressure.proofs.pressure_of.private_pressure.Goals as goal
use Rattle.pressure.proofs.pressure_of.private_pressure.Goals.{then-switches, else-switches}

pub lines-init : goal.lines-init
lines-init c = private_begun _ _ c.in_size-greatest.ensures.exact

pub lines-preserved : goal.lines-preserved
lines-preserved c =
    elim c.if-switches.branch [
      | then-switches w ↦
          rw (w.greatest-is, w.max-greatest.ensures)
          (private_switching _ _ _ _ _ c.lines-test.true (sym c.switches.ensures ∙ w.if-switches.true) w.stay_size.ensures c.lines.invariant)
      | else-switches w ↦ rw w.greatest-is (private_quiet _ _ _ _ (sym c.switches.ensures ∙ w.if-switches.false) c.lines.invariant)
    ]

pub returns : goal.returns
returns c =
    let whole : c.lines.i ≡ length c.args.code.now = omega arith in
    private_done _ _ (subst (λ n. IsPrivateBelow c.args.code.now n c.lines.greatest) whole c.lines.invariant)
