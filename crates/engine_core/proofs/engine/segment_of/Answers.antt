use Rattle.std.proofs.Common.{None, sym, ◌∙◌, subst, length, ◌≤◌}
use Rattle.std.proofs.lemmas.Option.{slice_get-get_or}
use Rattle.engine_core.proofs.SegmentLemmas.{segment_is, stays_sound, words_read, is_placed}
use Rattle.engine_core.proofs.MayRun.{within_passes, may_run}
use Rattle.engine_core.proofs.Elsewhere.{segment_confined}
use Rattle.engine_core.proofs.engine.segment_of.Goals as goal

pub segment-requires-clause-runs : goal.segment-requires-clause-runs
segment-requires-clause-runs c =
    (may_run c.args.image.now c.args.core.now c.args.contexts.now c.args.context _ c.requires.sound c.requires.legal c.words_of-words.ensures).runs

pub segment-requires-clause-placed : goal.segment-requires-clause-placed
segment-requires-clause-placed c =
    (may_run c.args.image.now c.args.core.now c.args.contexts.now c.args.context _ c.requires.sound c.requires.legal c.words_of-words.ensures).placed

pub returns-clause-sound : goal.returns-clause-sound
returns-clause-sound c =
    let a = c.args in
    let s = c.segment in
    let at = slice_get-get_or a.contexts.now a.context (record { at = 0; pending = None }) (is_placed a.image.now a.core.now a.contexts.now a.context c.requires.sound c.requires.legal) in
    stays_sound a.image.now a.core.now s.new.core a.contexts.now a.context _ s.new.place c.requires.sound at s.ensures.goes_on.contexts
    (λ code h. subst (λ ws. s.new.place.at ≤ length ws) (c.words_of-words.ensures ∙ words_read a.image.now a.context code h) s.ensures.placed.within)
    (λ code h. within_passes a.image.now a.context code s.new.place.pending h ∙ (segment_confined a.image.now a.core.now s.new.core a.context _ s.new.place c.words_of-words.result.now a.file.now s.new.values _ (may_run a.image.now a.core.now a.contexts.now a.context _ c.requires.sound c.requires.legal c.words_of-words.ensures) s.ensures.segment).pending)

pub returns-clause-elsewhere : goal.returns-clause-elsewhere
returns-clause-elsewhere c =
    let a = c.args in
    let s = c.segment in
    (segment_confined a.image.now a.core.now s.new.core a.context _ s.new.place c.words_of-words.result.now a.file.now s.new.values _ (may_run a.image.now a.core.now a.contexts.now a.context _ c.requires.sound c.requires.legal c.words_of-words.ensures) s.ensures.segment).keeps

pub returns-clause-fire : goal.returns-clause-fire
returns-clause-fire c =
    let a = c.args in
    let s = c.segment in
    let at = slice_get-get_or a.contexts.now a.context _ (is_placed a.image.now a.core.now a.contexts.now a.context c.requires.sound c.requires.legal) in
    segment_is a.image.now a.core.now s.new.core a.file.now s.new.values a.contexts.now a.context _ s.new.place c.words_of-words.result.now _ at (sym c.words_of-words.ensures) s.ensures.segment
