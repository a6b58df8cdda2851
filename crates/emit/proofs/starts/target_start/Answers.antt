use Rattle.std.proofs.Common.{◌∙◌, sym, ap}
use Rattle.std.specs.Prelude.{slice_index}
use Rattle.emit.proofs.Addressing.{target_is}
use Rattle.emit.proofs.starts.target_start.Goals as goal

pub returns-in-Some : goal.returns-in-Some
returns-in-Some c = λ j e.
    let is = c.number_at.ensures ∙ ap (λ ns. slice_index ns c.in-Some.j) c.as_slice.ensures in
    let same = sym c.in-Some.is ∙ ap (λ n. n.jump) c.next_at.ensures ∙ e in
    is ∙ target_is c.args.code.now c.args.plan.now c.args.addresses.now c.args.i j c.in-Some.j c.requires.closed c.requires.addresses e same
