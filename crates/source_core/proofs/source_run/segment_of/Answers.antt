use Rattle.std.proofs.Common.{[], sym, ◌∙◌, subst}
use Rattle.std.proofs.lemmas.Option.{slice_get-get_or}
use Rattle.source_core.specs.SourceState.{IsContext}
use Rattle.source_core.proofs.SegmentLemmas.{segment_is, stays_sound, code_read, is_placed, context_sound}
use Rattle.source_core.proofs.source_run.segment_of.Goals as goal

pub go_on-requires-clause-context : goal.go_on-requires-clause-context
go_on-requires-clause-context c =
    let a = c.args in
    context_sound a.bundle.now a.core.now a.contexts.now a.context c.code_of-code.result.now _ c.requires.sound c.requires.legal (slice_get-get_or a.contexts.now a.context _ (is_placed a.bundle.now a.core.now a.contexts.now a.context c.requires.sound c.requires.legal)) (sym c.code_of-code.ensures)

pub returns-clause-sound : goal.returns-clause-sound
returns-clause-sound c =
    let a = c.args in
    let s = c.go_on in
    let at = slice_get-get_or a.contexts.now a.context c.index-contexts-context.result (is_placed a.bundle.now a.core.now a.contexts.now a.context c.requires.sound c.requires.legal) in
    stays_sound a.bundle.now a.core.now s.new.core a.contexts.now a.context _ s.new.state c.requires.sound at s.ensures.goes_on.contexts
    (λ p h. subst (λ code. IsContext code s.new.state) (c.code_of-code.ensures ∙ code_read a.bundle.now a.context p h) s.ensures.context)

pub returns-clause-fire : goal.returns-clause-fire
returns-clause-fire c =
    let a = c.args in
    let s = c.go_on in
    let at = slice_get-get_or a.contexts.now a.context c.index-contexts-context.result (is_placed a.bundle.now a.core.now a.contexts.now a.context c.requires.sound c.requires.legal) in
    segment_is a.bundle.now a.core.now s.new.core a.contexts.now a.context _ s.new.state c.code_of-code.result.now _ at (sym c.code_of-code.ensures) s.ensures.segment
