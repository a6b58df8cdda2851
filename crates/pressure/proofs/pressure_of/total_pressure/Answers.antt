use Rattle.std.proofs.Common.{subst, arith, ◌≡◌, length}
use Rattle.pressure.proofs.Greatest.{IsTotalBelow, total_more, total_done}
use Rattle.pressure.proofs.pressure_of.total_pressure.Goals as goal

pub lines-preserved : goal.lines-preserved
lines-preserved c =
    let more = total_more _ _ _ _ _ c.lines-test.true c.in_size.ensures.exact c.after_size.ensures.exact c.lines.invariant.below in
    let e = c.max.ensures in
    let f = c.max-greatest.ensures in
    record {
      below = rw (f, e) more;
      few = let a = c.in_size.ensures.few in let b = c.after_size.ensures.few in let old = c.lines.invariant.few in omega arith;
    }

pub returns-clause-exact : goal.returns-clause-exact
returns-clause-exact c =
    let whole : c.lines.i ≡ length c.args.code.now = omega arith in
    total_done _ _ (subst (λ n. IsTotalBelow c.args.code.now n c.lines.greatest) whole c.lines.invariant.below)

pub returns-clause-stay : goal.returns-clause-stay
returns-clause-stay c =
    let whole : c.lines.i ≡ length c.args.code.now = omega arith in
    (subst (λ n. IsTotalBelow c.args.code.now n c.lines.greatest) whole c.lines.invariant.below).stay
