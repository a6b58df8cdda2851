use Rattle.std.proofs.Common.{◌<◌, ◌+◌, ◌∷◌, drop, length, sym, subst, arith}
use Rattle.std.specs.Prelude.{slice_index_or}
use Rattle.edge_moves.specs.MoveSteps.{Pair}
use Rattle.edge_moves.proofs.Lists.{drop_pair}
use Rattle.edge_moves.proofs.Tables.{Filling, filling_begins, filling_stays, filling_moves, filling_ends, left_moving}
use Rattle.edge_moves.proofs.source_table.sources_to.Goals as goal
use Rattle.edge_moves.proofs.source_table.sources_to.Goals.{then-source-target, else-source-target}

pub loop-source-init : goal.loop-source-init
loop-source-init c = filling_begins c.args.pairs.now c.requires

pub loop-source-preserved : goal.loop-source-preserved
loop-source-preserved c =
    let pairs = c.args.pairs.now in
    let i = c.loop-source.source-index in
    let p : Pair = slice_index_or pairs i (record { 0 = 0 }, record { 0 = 0 }) in
    let before : Filling c.loop-source.sources (p ∷ drop (i + 1) pairs) pairs = subst (λ k. Filling c.loop-source.sources k pairs) (drop_pair pairs i (record { 0 = 0 }, record { 0 = 0 }) c.loop-source-test.true) c.loop-source.invariant in
    elim c.if-source-target.branch [
      | then-source-target w ↦ (let inside : (p.1).0 < length c.loop-source.sources = let size = c.loop-source.invariant.size in omega (arith, size) in
          subst (λ k. Filling k (drop (i + 1) pairs) pairs) (sym w.sources-is) (filling_moves c.loop-source.sources p (drop (i + 1) pairs) pairs w.if-source-target.true inside before))
      | else-source-target w ↦ subst (λ k. Filling k (drop (i + 1) pairs) pairs) (sym w.sources-is) (filling_stays c.loop-source.sources p (drop (i + 1) pairs) pairs w.if-source-target.false before)
    ]

pub returns-clause-left : goal.returns-clause-left
returns-clause-left c = left_moving c.loop-source.sources c.args.pairs.now c.requires (filling_ends c.loop-source.sources c.loop-source.source-index c.args.pairs.now c.loop-source-test.false c.loop-source.invariant)
