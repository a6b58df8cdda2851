use Rattle.std.proofs.Common.{◌∙◌, ap, length, arith}
use Rattle.std.specs.Prelude.{slice_index}
use Rattle.emit.proofs.Addressing.{start_is, block_is_at, block_fits}
use Rattle.emit.proofs.starts.block_start.Goals as goal

pub overflow_add-result : goal.overflow_add-result
overflow_add-result c =
    let lt = c.requires.within in
    let start = c.number_at.ensures ∙ ap (λ ns. slice_index ns (length c.args.code.now)) c.as_slice.ensures ∙ start_is c.args.code.now c.args.plan.now c.args.addresses.now (length c.args.code.now) c.requires.addresses (omega arith) in
    let block = c.number_at-2.ensures ∙ ap (λ ns. slice_index ns c.args.i) c.as_slice-2.ensures ∙ block_is_at c.args.code.now c.args.plan.now c.args.addresses.now c.args.i c.requires.addresses (omega arith) in
    let fits = block_fits c.args.code.now c.args.plan.now c.args.i c.requires.closed c.requires.valid (omega arith) in
    omega arith

pub returns : goal.returns
returns c =
    let lt = c.requires.within in
    let start = c.number_at.ensures ∙ ap (λ ns. slice_index ns (length c.args.code.now)) c.as_slice.ensures ∙ start_is c.args.code.now c.args.plan.now c.args.addresses.now (length c.args.code.now) c.requires.addresses (omega arith) in
    let block = c.number_at-2.ensures ∙ ap (λ ns. slice_index ns c.args.i) c.as_slice-2.ensures ∙ block_is_at c.args.code.now c.args.plan.now c.args.addresses.now c.args.i c.requires.addresses (omega arith) in
    omega arith
