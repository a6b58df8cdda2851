use Rattle.std.proofs.Common.{◌+◌, arith}
use Rattle.emit.proofs.Sizing.{small_address, small_block, next_start, next_blocks}
use Rattle.emit.proofs.Filling.{row_small}
use Rattle.emit.proofs.starts.addresses_of.Goals as goal

pub overflow_add-start-in-loop-i : goal.overflow_add-start-in-loop-i
overflow_add-start-in-loop-i c =
    let lt = c.loop-i-test.true in
    let few = c.requires.closed.few in
    let is = c.loop-i.invariant.start in
    let fall = c.in_ok-size.ensures.fall in
    let next = next_start c.args.code.now c.args.plan.now c.loop-i.i in
    let small = small_address c.args.code.now c.args.plan.now c.requires.valid c.requires.closed (c.loop-i.i + 1) (omega arith) in
    omega arith

pub overflow_add-block : goal.overflow_add-block
overflow_add-block c =
    let lt = c.loop-i-test.true in
    let few = c.requires.closed.few in
    let is = c.loop-i.invariant.block in
    let block = c.in_ok-size.ensures.block in
    let next = next_blocks c.args.code.now c.args.plan.now c.loop-i.i in
    let small = small_block c.args.code.now c.args.plan.now c.requires.valid c.requires.closed (c.loop-i.i + 1) (omega arith) in
    omega arith

pub places_of_row-table-requires : goal.places_of_row-table-requires
places_of_row-table-requires c = row_small c.args.code.now c.args.plan.now 0 c.requires.closed c.requires.valid
