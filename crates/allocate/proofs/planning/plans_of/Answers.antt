use Rattle.allocate.proofs.Rooming.{chosen_more}
use Rattle.allocate.proofs.planning.plans_of.Goals as goal

pub loop-c-preserved : goal.loop-c-preserved
loop-c-preserved c = record {
  chosen =
      chosen_more c.args.programs.now c.args.sizes.now c.args.shared c.loop-c.c c.loop-c.plans c.push_plan.new.plans c.in_ok-plan.plan c.in_ok-push_plan.ensures c.loop-c.invariant.chosen c.in_ok-plan.ensures.chosen;
  walks = c.in_ok-plan.ensures.walks;
}
