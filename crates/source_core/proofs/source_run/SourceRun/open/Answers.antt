use Rattle.std.proofs.Common.{ap, ◌∙◌, map}
use Rattle.semantics.specs.Core.{opening_core}
use Rattle.source_core.specs.SourceState.{start_of}
use Rattle.source_core.proofs.Opening.{opens_sound, opens}
use Rattle.source_core.proofs.source_run.SourceRun.open.Goals as goal

pub invariant_of-result : goal.invariant_of-result
invariant_of-result c =
    opens_sound c.args.bundle.now c.in_ok-bundle.bundle c.args.bound c.in_ok-core.core c.in_ok-contexts.contexts.items c.requires.formed c.in_ok-bundle.ensures
    (c.in_ok-core.ensures ∙ ap (λ n. opening_core c.args.bundle.now.setting n c.args.bound) c.len.ensures)
    (c.in_ok-contexts.ensures ∙ ap (map start_of) c.as_slice.ensures)

pub returns-clause-opening : goal.returns-clause-opening
returns-clause-opening c =
    opens c.args.bundle.now c.in_ok-bundle.bundle c.args.bound c.in_ok-core.core c.in_ok-contexts.contexts.items c.in_ok-bundle.ensures
    (c.in_ok-core.ensures ∙ ap (λ n. opening_core c.args.bundle.now.setting n c.args.bound) c.len.ensures)
    (c.in_ok-contexts.ensures ∙ ap (map start_of) c.as_slice.ensures)
