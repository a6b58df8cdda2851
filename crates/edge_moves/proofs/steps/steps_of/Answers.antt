use Rattle.std.proofs.Common.{length, sym, subst, arith}
use Rattle.edge_moves.specs.Remaining.{Remains, AreSources}
use Rattle.edge_moves.proofs.Parallel.{one_turn, first_turn, remains-moving, remains-turn}
use Rattle.edge_moves.proofs.steps.steps_of.Goals as goal

pub loop-init : goal.loop-init
loop-init c = record {
  done = first_turn _ _ _ _ c.new-steps.ensures.items c.in_ok-left.ensures;
  remains = subst (λ left. Remains c.args.free left) (sym c.in_ok-left.ensures) (remains-moving _ _ c.requires.distinct c.requires.free);
  sources = subst (λ left. AreSources left c.sources_of-sources.result) c.as_slice.ensures.value c.sources_of-sources.ensures;
}

pub loop-preserved : goal.loop-preserved
loop-preserved c =
    let turn = c.in_ok-turn.ensures in record {
      done = one_turn c.args.free (length c.args.pairs.now) c.loop.counter c.loop.left.items _ c.loop.steps.items _ _ (omega arith) turn.left turn.steps c.loop.invariant.done;
      remains = subst (λ left. Remains c.args.free left) (sym turn.left) (remains-turn c.args.free c.loop.left.items c.loop.invariant.remains);
      sources = turn.sources;
    }
