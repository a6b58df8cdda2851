-- One segment of the interpreter is one event of the source run.
use Rattle.std.proofs.Common.{◌≡◌, ℕ, ◌<◌, ◌≤◌, List, [], length, Some, None, refl, sym, ap, ◌∙◌, subst, arith}
use Rattle.std.specs.Prelude.{slice_get, slice_set, ◌==◌}
use Rattle.std.proofs.lemmas.Option.{slice_get_within, slice_get-get_or}
use Rattle.std.proofs.lemmas.List.{length-set}
use Rattle.micro_isa.specs.declared.limits.TheConstants.{MOST_CONTEXTS}
use Rattle.micro_isa.specs.declared.program.Line.{Line}
use Rattle.micro_isa.specs.declared.program.Program.{Program}
use Rattle.micro_isa.specs.declared.program.Bundle.{Bundle}
use Rattle.world.specs.declared.event.Event.TheVariants.{Run}
use Rattle.world.specs.declared.event.Seen.{Seen}
use Rattle.semantics.specs.Core.{Core, completion, completed, illegal_of}
use Rattle.semantics.specs.Events.{given, after_stretch, fire}
use Rattle.semantics.specs.Stretches.{stretch_in, stretch_of}
use Rattle.semantics.specs.Source.{Contexts, code_of, code_in, with_context, source_kind, source_semantics}
use Rattle.run_state.proofs.Replacing.{seen_after, each_after}
use Rattle.run_state.proofs.Segments.{is_there}
use Rattle.source_core.specs.declared.context.ContextState.{ContextState}
use Rattle.run_state.specs.Segments.{segment_of}
use Rattle.source_core.specs.SourceState.{seen_context, context_of, config_of, IsContext, IsSound}

-- a segment of a context is what happens to the source run
pub segment_is : (bundle : Bundle) (core core2 : Core) (xs : List ContextState) (c : ℕ) (x x2 : ContextState) (code : List Line) (seen : Seen) → slice_get xs c ≡ Some x → code_of bundle c ≡ code → segment_of source_kind c code core (seen_context x) ≡ (record { core = core2; state = seen_context x2 }, seen) → fire (source_semantics bundle) (config_of (record { bundle = bundle; core = core; contexts = xs })) (Run c) ≡ (config_of (record { bundle = bundle; core = core2; contexts = slice_set xs c x2 }), seen)
segment_is bundle core core2 xs c x x2 code seen at is_code went =
    let st : Contexts = λ d. context_of (slice_get xs d) in
    let lt = slice_get_within xs c x at in
    (λ i. after_stretch (completed core c) c (completion core c) (stretch_in (with_context st c) (stretch_of source_kind c (is_code i) (given core c) (context_of (at i)))))
    ∙ (λ i. (record { core = (went i).0.core; state = with_context st c (went i).0.state }, (went i).1))
    ∙ (λ i. (record { core = core2; state = λ d. seen_after context_of xs c x2 lt d (d == c) refl i }, seen))

-- the interpreter stays sound where a context does
pub stays_sound : (bundle : Bundle) (core core' : Core) (xs : List ContextState) (c : ℕ) (x0 x : ContextState) → IsSound bundle core xs → slice_get xs c ≡ Some x0 → length core'.phases ≡ length core.phases → ((p : Program) → slice_get bundle.programs c ≡ Some p → IsContext p.code x) → IsSound bundle core' (slice_set xs c x)
stays_sound bundle core core' xs c x0 x s old same placed = record {
  few = subst (λ n. n ≤ MOST_CONTEXTS) (sym (length-set xs c x)) s.few;
  as_many = length-set xs c x ∙ s.as_many ∙ sym same;
  as_many_programs = s.as_many_programs ∙ sym same;
  each = each_after (λ p y. IsContext p.code y) bundle.programs xs c x0 x old s.each placed;
}

pub code_read : (bundle : Bundle) (c : ℕ) (p : Program) → slice_get bundle.programs c ≡ Some p → code_of bundle c ≡ p.code
code_read bundle c p h = ap code_in h

-- a context that may run is there, and so is its program
pub is_placed : (bundle : Bundle) (core : Core) (xs : List ContextState) (c : ℕ) → IsSound bundle core xs → illegal_of core (Run c) ≡ None → c < length xs
is_placed bundle core xs c s may = omega (arith, is_there core c may, s.as_many)

-- a context that may run is sound
pub context_sound : (bundle : Bundle) (core : Core) (xs : List ContextState) (c : ℕ) (code : List Line) (x : ContextState) → IsSound bundle core xs → illegal_of core (Run c) ≡ None → slice_get xs c ≡ Some x → code_of bundle c ≡ code → IsContext code x
context_sound bundle core xs c code x s may at is_code =
    let lt : c < length bundle.programs = omega (arith, is_there core c may, s.as_many_programs) in
    let is_program = slice_get-get_or bundle.programs c (record { name = []; registers = []; labels = []; code = [] }) lt in
    subst (λ k. IsContext k x) (sym (code_read bundle c _ is_program) ∙ is_code) (s.each c _ x is_program at)
