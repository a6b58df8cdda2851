use Rattle.std.proofs.Common.{◌∙◌, sym, subst}
use Rattle.flow_graph.specs.Paths.{Below}
use Rattle.liveness.proofs.sweep.live_after.Goals as goal

pub set_at-requires : goal.set_at-requires
set_at-requires c =
    let flow = c.requires.flow in
    let as_many = flow.successors.one_each ∙ sym c.requires.one_each in
    subst (λ n. Below c.successors_of-next.result.fall n) as_many (flow.within.fall _ _ c.successors_of-next.ensures)

pub set_at-requires-2 : goal.set_at-requires-2
set_at-requires-2 c =
    let flow = c.requires.flow in
    let as_many = flow.successors.one_each ∙ sym c.requires.one_each in
    subst (λ n. Below c.successors_of-next.result.jump n) as_many (flow.within.jump _ _ c.successors_of-next.ensures)
