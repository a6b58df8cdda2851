use Rattle.std.proofs.Common.{◌∙◌, sym, ap, subst}
use Rattle.edge_moves.specs.ParallelMove.{IsFree}
use Rattle.emitted.specs.Edges.{free_from}
use Rattle.emitted.proofs.Places.{free_is}
use Rattle.emit.proofs.edges.steps_of.Goals as goal

pub sequence-requires-clause-free : goal.sequence-requires-clause-free
sequence-requires-clause-free c =
    let same = c.as_slice.ensures.value ∙ sym c.as_slice-2.ensures.value in
    subst (λ o. IsFree c.as_slice-2.result.now o) (sym (c.free_place-free.ensures ∙ ap (λ ps. free_from ps c.args.places 0) same)) (free_is c.as_slice-2.result.now c.args.places 0)
