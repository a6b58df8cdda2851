use Rattle.std.proofs.Common.{◌≡◌, ◌+◌, ◌∷◌, false, drop, sym, ◌∙◌, subst}
use Rattle.std.specs.Prelude.{slice_index_or}
use Rattle.std.proofs.lemmas.List.{drop_all}
use Rattle.edge_moves.specs.MoveSteps.{Pair, moving, is_source}
use Rattle.edge_moves.specs.Tally.{Holds, left_of}
use Rattle.edge_moves.proofs.Lists.{drop_pair}
use Rattle.edge_moves.proofs.Tables.{no_source-left}
use Rattle.edge_moves.proofs.Passes.{Peeled, peeled_begins, peeled_source, peeled_chain, peeled_ends}
use Rattle.edge_moves.proofs.taking.take_outside.Goals as goal
use Rattle.edge_moves.proofs.taking.take_outside.Goals.{then-not-all-target, else-not-all-target}

pub loop-target-init : goal.loop-target-init
loop-target-init c = record {
  holds = subst (Holds c.args.sources.now) (sym c.requires.left) c.requires.holds;
  peeled = peeled_begins c.args.pairs.now (left_of c.args.sources.now c.args.pairs.now) c.requires.distinct c.requires.left;
}

pub loop-target-preserved : goal.loop-target-preserved
loop-target-preserved c =
    let pairs = c.args.pairs.now in
    let i = c.loop-target.target-index in
    let rest = drop (i + 1) pairs in
    let first = moving pairs in
    let left = left_of c.loop-target.sources pairs in
    let p : Pair = slice_index_or pairs i (record { 0 = 0 }, record { 0 = 0 }) in
    let before : Peeled pairs (p ∷ rest) first left = subst (λ k. Peeled pairs k first left) (drop_pair pairs i (record { 0 = 0 }, record { 0 = 0 }) c.loop-target-test.true) c.loop-target.invariant.peeled in
    let is = c.sources_of-all.ensures.exact (p.1).0 in
    elim c.if-not-all-target.branch [
      | then-not-all-target w ↦ (let free : is_source left (p.1).0 ≡ false = no_source-left c.loop-target.sources (p.1).0 pairs (sym is ∙ w.if-not-all-target.true) in
          let t = w.take_back.ensures pairs c.requires.distinct c.loop-target.invariant.holds free in
          record {
            holds = subst (λ k. Holds k (left_of k pairs)) (sym w.sources-is) t.1.holds;
            peeled = subst (λ k. Peeled pairs rest first (left_of k pairs)) (sym w.sources-is) (peeled_chain pairs rest first left _ p t.0 t.1.unwound t.2 before);
          })
      | else-not-all-target w ↦ record {
        holds = subst (λ k. Holds k (left_of k pairs)) (sym w.sources-is) c.loop-target.invariant.holds;
        peeled = subst (λ k. Peeled pairs rest first (left_of k pairs)) (sym w.sources-is) (peeled_source pairs rest first left p (sym is ∙ w.if-not-all-target.false) before);
      }
    ]

pub returns-clause-left : goal.returns-clause-left
returns-clause-left c =
    let pairs = c.args.pairs.now in
    let left = left_of c.loop-target.sources pairs in
    peeled_ends pairs left (subst (λ k. Peeled pairs k (moving pairs) left) (drop_all c.loop-target.target-index pairs c.loop-target-test.false) c.loop-target.invariant.peeled)
