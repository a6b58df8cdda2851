use Rattle.std.proofs.Common.{◌+◌, length, arith}
use Rattle.emit.proofs.Sizing.{next_glue}
use Rattle.emitted.specs.Edges.{fall_steps}
use Rattle.emitted.specs.Words.{block_size}
use Rattle.allocate.proofs.Falls.{total_rises}
use Rattle.allocate.proofs.moving.moves_more.Goals as goal

pub loop-i-preserved : goal.loop-i-preserved
loop-i-preserved c = record {
  few = let one = c.moves_at-moved.ensures.one in let before = c.loop-i.invariant.few in omega arith;
  moved = λ p r plan fit.
      let before = c.loop-i.invariant.moved p r plan fit in
      let here = c.moves_at-moved.ensures.moves p r plan fit in
      let next = next_glue c.args.code.now plan c.loop-i.i in
      omega arith;
}

pub returns-then-words-moved : goal.returns-then-words-moved
returns-then-words-moved c = λ e p r plan fit.
    let code = c.args.code.now in
    let before = c.loop-i.invariant.moved p r plan fit in
    let here = c.moves_at-moved.ensures.moves p r plan fit in
    let next = next_glue code plan c.loop-i.i in
    let more = c.if-words-moved.true in
    let rest = total_rises (λ i. length (fall_steps code plan i) + block_size code plan i) (c.loop-i.i + 1) (length code) (let less = c.loop-i-test.true in omega arith) in
    omega arith
