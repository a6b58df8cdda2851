use Rattle.std.proofs.Common.{◌≡◌, ◌+◌, ◌≤◌, drop, sym, ap, ◌∙◌, arith}
use Rattle.std.specs.Prelude.{if◌then◌else◌}
use Rattle.std.proofs.lemmas.Bool.Decides.{nat_tests}
use Rattle.edge_moves.specs.Tally.{left_of}
use Rattle.edge_moves.proofs.Lists.{drop_pair}
use Rattle.edge_moves.proofs.taking.take_cycles.Goals as goal
use Rattle.edge_moves.proofs.taking.take_cycles.Goals.{then-take_cycle, else-take_cycle}

pub loop-pair-preserved : goal.loop-pair-preserved
loop-pair-preserved c =
    let pairs = c.args.pairs.now in
    let i = c.loop-pair.pair-index in
    let here = ap (left_of c.loop-pair.sources) (sym (drop_pair pairs i (record { 0 = 0 }, record { 0 = 0 }) c.loop-pair-test.true)) ∙ c.loop-pair.invariant.later in
    let k = c.take_cycle.ensures pairs (drop (i + 1) pairs) c.requires.distinct c.loop-pair.invariant.holds c.loop-pair.invariant.closed here in
    let step : c.if-take_cycle.cycles ≡ c.loop-pair.cycles + (if c.take_cycle.result then 1 else 0) = elim c.if-take_cycle.branch [ then-take_cycle w ↦ grind (arith, nat_tests, w.if-take_cycle.true, w.cycles-is) | else-take_cycle w ↦ grind (arith, nat_tests, w.if-take_cycle.false, w.cycles-is) ] in
    let few : c.if-take_cycle.cycles ≤ i + 1 = elim c.if-take_cycle.branch [ then-take_cycle w ↦ omega (arith, w.cycles-is, c.loop-pair.invariant.few) | else-take_cycle w ↦ omega (arith, w.cycles-is, c.loop-pair.invariant.few) ] in
    record {
      holds = k.holds;
      closed = k.closed;
      later = k.later;
      number = omega (arith, step, k.number, c.loop-pair.invariant.number);
      few = few;
    }
