use Rattle.std.proofs.Common.{◌≡◌, ◌+◌, ap, ◌∙◌, arith}
use Rattle.emitted.specs.Words.{glue_of}
use Rattle.emit.specs.Sized.{with_places}
use Rattle.emit.proofs.sizes.flat_glue.Goals as goal

pub returns-clause-number : goal.returns-clause-number
returns-clause-number c =
    let plan = c.args.plan.now in
    let own = c.r.ensures in
    let same : c.r.result + 0 ≡ plan.r = omega arith in
    c.in_ok-own.ensures.numbers 0 (omega arith) ∙ ap (λ r. glue_of c.args.program.now.code (with_places plan r)) same
