use Rattle.std.proofs.Common.{◌≡◌, ◌∙◌, sym, ap, subst}
use Rattle.std.specs.Prelude.{slice_get}
use Rattle.flow_graph.specs.Paths.{IsClosedCode}
use Rattle.semantics.specs.Source.{code_in}
use Rattle.plan.specs.ValidPlans.{IsValidPlan}
use Rattle.emitted.specs.Words.{glue_of}
use Rattle.emit.proofs.Imaging.{valid_at, closed_at}
use Rattle.emit.proofs.Stilling.{still_context}
use Rattle.emit.proofs.image.context_of.Goals as goal

pub words_of-requires-clause-valid : goal.words_of-requires-clause-valid
words_of-requires-clause-valid c =
    let code = c.code_at-code.ensures ∙ ap (λ ps. code_in (slice_get ps c.args.c)) c.as_slice.ensures in
    let plan = c.plan_at.ensures in
    subst (λ ls. IsValidPlan ls c.plan_at.result.now) (sym code)
    (subst (IsValidPlan (code_in (slice_get c.args.bundle.now.programs c.args.c))) (sym plan) (valid_at c.args.bundle.now c.args.plans.now c.args.budget.now c.args.c c.requires.formed c.requires.plans c.requires.room c.requires.within))

pub words_of-requires-clause-closed : goal.words_of-requires-clause-closed
words_of-requires-clause-closed c =
    let code = c.code_at-code.ensures ∙ ap (λ ps. code_in (slice_get ps c.args.c)) c.as_slice.ensures in
    subst IsClosedCode (sym code) (closed_at c.args.bundle.now c.args.plans.now c.args.budget.now c.args.c c.requires.formed c.requires.plans c.requires.room c.requires.within)

pub words_of-requires-clause-still : goal.words_of-requires-clause-still
words_of-requires-clause-still c = λ still.
    let code = c.code_at-code.ensures ∙ ap (λ ps. code_in (slice_get ps c.args.c)) c.as_slice.ensures in
    let none = still_context c.args.bundle.now c.args.plans.now c.args.c (c.requires.still still) c.requires.within in
    subst (λ ls. glue_of ls c.plan_at.result.now ≡ 0) (sym code) (subst (λ plan. glue_of (code_in (slice_get c.args.bundle.now.programs c.args.c)) plan ≡ 0) (sym c.plan_at.ensures) none)
