use Rattle.std.proofs.Common.{◌≡◌, Some, sym, ap, ◌∙◌, subst}
use Rattle.std.specs.Prelude.{slice_get}
use Rattle.std.proofs.lemmas.Option.{slice_get-get_or}
use Rattle.plan_cases.proofs.Closed.{closed_item}
use Rattle.plan_cases.proofs.bundles.context_of.Goals as goal

pub returns-clause-item : goal.returns-clause-item
returns-clause-item c =
    let program = c.index-programs-c.result in
    subst (λ ps. slice_get ps c.args.c ≡ Some program) c.as_slice-programs.ensures
    (slice_get-get_or c.as_slice-programs.result.now c.args.c program c.if-programs-c.false ∙ ap Some (sym c.index-programs-c.is))

pub returns-clause-closed : goal.returns-clause-closed
returns-clause-closed c =
    closed_item c.args.bundle.now c.as_slice-programs.result.now c.args.c c.index-programs-c.result c.requires c.as_slice-programs.ensures
    c.if-programs-c.false c.index-programs-c.is
