use Rattle.std.proofs.Common.{◌∙◌, ap, arith}
use Rattle.std.specs.Prelude.{slice_index}
use Rattle.emit.proofs.Addressing.{start_is, start_fits}
use Rattle.emit.proofs.starts.has_falls.Goals as goal

pub overflow_add-result : goal.overflow_add-result
overflow_add-result c =
    let lt = c.requires.within in
    let start = c.number_at.ensures ∙ ap (λ ns. slice_index ns c.args.i) c.as_slice-starts.ensures ∙ start_is c.args.code.now c.args.plan.now c.args.addresses.now c.args.i c.requires.addresses (omega arith) in
    let fits = start_fits c.args.code.now c.args.plan.now c.args.i c.requires.closed c.requires.valid (omega arith) in
    omega arith
