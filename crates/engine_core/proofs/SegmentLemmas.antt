-- One segment of the engine is one event of the machine run.
use Rattle.std.proofs.Common.{◌≡◌, ℕ, ◌<◌, ◌≤◌, List, length, Some, None, true, refl, sym, ap, ◌∙◌, arith}
use Rattle.std.specs.Prelude.{slice_get, slice_set, ◌==◌}
use Rattle.std.proofs.lemmas.Option.{slice_get_within}
use Rattle.std.proofs.lemmas.List.{length-set}
use Rattle.micro_isa.specs.declared.image.PReg.{PReg}
use Rattle.micro_isa.specs.declared.image.Word.{Word}
use Rattle.micro_isa.specs.declared.image.Code.{Code}
use Rattle.micro_isa.specs.declared.image.Image.{Image}
use Rattle.micro_isa.specs.Formed.{writes_within}
use Rattle.world.specs.declared.event.Event.TheVariants.{Run}
use Rattle.world.specs.declared.event.Seen.{Seen}
use Rattle.semantics.specs.Core.{Core, completion, completed, illegal_of}
use Rattle.semantics.specs.Events.{given, after_stretch, fire}
use Rattle.semantics.specs.Stretches.{stretch_in, stretch_of}
use Rattle.semantics.specs.Machine.{Machine, machine_kind, with_active, words_of, words_in, machine_semantics}
use Rattle.run_state.proofs.Replacing.{seen_after, each_after}
use Rattle.run_state.proofs.Segments.{is_there}
use Rattle.run_state.specs.declared.stretch.ContextPlace.{ContextPlace}
use Rattle.run_state.specs.Running.{context_at}
use Rattle.run_state.specs.Segments.{segment_of}
use Rattle.engine_core.specs.EngineState.{kept_of, config_of, IsContext, IsSound}

-- a segment of a context is what happens to the machine
pub segment_is : (image : Image) (core core2 : Core) (file file2 : List ℕ) (ks : List (ContextPlace PReg)) (c : ℕ) (k k2 : ContextPlace PReg) (words : List Word) (seen : Seen) → slice_get ks c ≡ Some k → words_of image c ≡ words → segment_of machine_kind c words core (context_at k.at file k.pending) ≡ (record { core = core2; state = context_at k2.at file2 k2.pending }, seen) → fire (machine_semantics image) (config_of (record { image = image; core = core; file = file; contexts = ks })) (Run c) ≡ (config_of (record { image = image; core = core2; file = file2; contexts = slice_set ks c k2 }), seen)
segment_is image core core2 file file2 ks c k k2 words seen at code went =
    let st : Machine = record { file = file; contexts = λ d. kept_of (slice_get ks d) } in
    let lt = slice_get_within ks c k at in
    (λ i. after_stretch (completed core c) c (completion core c) (stretch_in (with_active st c) (stretch_of machine_kind c (code i) (given core c) (record { kept = kept_of (at i); values = file }))))
    ∙ (λ i. (record { core = (went i).0.core; state = with_active st c (went i).0.state }, (went i).1))
    ∙ (λ i. (record { core = core2; state = record { file = file2; contexts = λ d. seen_after kept_of ks c k2 lt d (d == c) refl i } }, seen))

-- the engine stays sound where a context comes to a place within its words
pub stays_sound : (image : Image) (core core' : Core) (ks : List (ContextPlace PReg)) (c : ℕ) (k0 k : ContextPlace PReg) → IsSound image core ks → slice_get ks c ≡ Some k0 → length core'.phases ≡ length core.phases → ((code : Code) → slice_get image.contexts c ≡ Some code → k.at ≤ length code.words) → ((code : Code) → slice_get image.contexts c ≡ Some code → writes_within code.private image.shared k.pending ≡ true) → IsSound image core' (slice_set ks c k)
stays_sound image core core' ks c k0 k s old same placed awaits = record {
  formed = s.formed;
  as_many = length-set ks c k ∙ s.as_many ∙ sym same;
  as_many_words = s.as_many_words ∙ sym same;
  each = each_after (IsContext image) image.contexts ks c k0 k old s.each (λ code here. record {
    within = placed code here;
    pending = awaits code here;
  });
}

pub words_read : (image : Image) (c : ℕ) (code : Code) → slice_get image.contexts c ≡ Some code → words_of image c ≡ code.words
words_read image c code h = ap words_in h

-- a context that may run is there
pub is_placed : (image : Image) (core : Core) (ks : List (ContextPlace PReg)) (c : ℕ) → IsSound image core ks → illegal_of core (Run c) ≡ None → c < length ks
is_placed image core ks c s may = omega (arith, is_there core c may, s.as_many)
