-- A port is asked, and its answer is done.
use Rattle.std.proofs.Common.{◌≡◌, ℕ, List, [], ◌∷◌, length, Some, None, true, false, refl, sym, ap, ◌∙◌, subst}
use Rattle.std.specs.List.{filter_map}
use Rattle.micro_isa.specs.Formed.{port_of, is_distinct}
use Rattle.world.specs.Channels.{with_word, has_plugged_port}
use Rattle.std.specs.Prelude.{slice_get, nat_eq, slice_set}
use Rattle.std.proofs.lemmas.Option.{same_Some}
use Rattle.micro_isa.specs.declared.program.Channel.{Channel}
use Rattle.micro_isa.specs.declared.image.Image.{Image}
use Rattle.world.specs.declared.event.Entry.{Entry}
use Rattle.world.specs.declared.event.Entry.TheVariants as entry
use Rattle.world.specs.WorldState.{WorldState, is_plugged, can_feed, after_feed, after_unplug}
use Rattle.semantics.specs.Core.{Core}
use Rattle.engine_core.specs.EngineState.{EngineState}
use Rattle.ports.specs.declared.port.Polled.{Polled}
use Rattle.ports.specs.declared.port.Polled.TheVariants as polled
use Rattle.ports.specs.SlotsState.{SlotsState, has}
use Rattle.ports.specs.Tales.{Polls, Changes}
use Rattle.run_journal.specs.Keeping.{port_at}
use Rattle.run_journal.specs.Turning.{Fits}
use Rattle.run_journal.specs.Pumping.{after_answer}
use Rattle.run_journal.specs.Histories.{IsHistory, channels_of}
use Rattle.run_journal.specs.Parts.{Went, retired_after, TakesAnswer, Answers, AsksOne}
use Rattle.run_journal.proofs.Worlds.{changed_holds}
use Rattle.run_journal.proofs.Turning.{fits_same, fits_without, changed_length}
use Rattle.run_journal.proofs.Histories.{feed_plugged}
use Rattle.run_journal.proofs.Going.{went_none, ports_apart}

pub took_word : (e e' : EngineState) (es es' : List Entry) (s : SlotsState) (channel port word : ℕ) → Went e e' es es' (entry.Fed channel word ∷ []) → e'.core ≡ record e.core { world = after_feed e.core.world channel word } → TakesAnswer e e' es es' s s channel port (polled.Word word)
took_word e e' es es' s channel port word went core = record { went = went; core = core; told = refl; retired = refl }

pub took_nothing : (e : EngineState) (es : List Entry) (s : SlotsState) (channel port : ℕ) → IsHistory e es → TakesAnswer e e es es s s channel port polled.Empty
took_nothing e es s channel port h = record { went = went_none e es h; core = refl; told = refl; retired = refl }

pub took_closed : (e e' : EngineState) (es es' : List Entry) (s s' : SlotsState) (channel port : ℕ) → Went e e' es es' (entry.Unplugged channel ∷ []) → e'.core ≡ record e.core { world = after_unplug e.core.world channel } → s'.told ≡ s.told → s'.retired ≡ slice_set s.retired port true → TakesAnswer e e' es es' s s' channel port polled.Closed
took_closed e e' es es' s s' channel port went core told retired = record { went = went; core = core; told = told; retired = retired }

pub took_failed : (e e' : EngineState) (es es' : List Entry) (s s' : SlotsState) (channel port : ℕ) → Went e e' es es' (entry.Unplugged channel ∷ []) → e'.core ≡ record e.core { world = after_unplug e.core.world channel } → s'.told ≡ s.told → s'.retired ≡ slice_set s.retired port true → TakesAnswer e e' es es' s s' channel port polled.Failed
took_failed e e' es es' s s' channel port went core told retired = record { went = went; core = core; told = told; retired = retired }

pub answers_is : (e e' : EngineState) (es es' : List Entry) (s s1 s' : SlotsState) (channel port : ℕ) (r : Polled) → Changes (λ a b. Polls a r b) s.told port s1.told → s1.retired ≡ s.retired → TakesAnswer e e' es es' s1 s' channel port r → Answers e e' es es' s s' channel port r
answers_is e e' es es' s s1 s' channel port r told same took = record {
  told = subst (λ t. Changes (λ a b. Polls a r b) s.told port t) (sym took.told) told;
  went = took.went;
  core = took.core;
  retired = took.retired ∙ ap (λ l. retired_after r l port) same;
}

-- a channel that can be fed has its port
pub fed_port : (chs : List Channel) (w : WorldState) (s : SlotsState) (k : ℕ) (j : ℕ) → Fits chs w s → can_feed w k ≡ true → Some j ≡ port_at chs k → has s j ≡ true
fed_port chs w s k j fits can port =
    let t = fits.there k (feed_plugged w k can) in
    ap (has s) (same_Some j t.0 (port ∙ t.1)) ∙ t.2

pub some_port : (chs : List Channel) (w : WorldState) (s : SlotsState) (k : ℕ) → Fits chs w s → can_feed w k ≡ true → None ≡ port_at chs k → ⊥
some_port chs w s k fits can port = let t = fits.there k (feed_plugged w k can) in absurd (let f : None ≡ Some t.0 = port ∙ t.1 in cc)

fits_in : (e e' : EngineState) (w : WorldState) (s : SlotsState) → e'.image ≡ e.image → Fits (channels_of e) w s → Fits (channels_of e') w s
fits_in e e' w s same fits = subst (λ (m : Image). Fits m.setting.channels w s) (sym same) fits

word_plug : (w : WorldState) (k word l : ℕ) → is_plugged (after_feed w k word) l ≡ true → is_plugged w l ≡ true
word_plug w k word l h = sym (changed_holds has_plugged_port (with_word word) w.channels k l (slice_get w.channels k) refl (λ ch. refl)) ∙ h

fits_answered : (chs : List Channel) (w : WorldState) (s s' : SlotsState) (k j : ℕ) (r : Polled) → is_distinct nat_eq (filter_map port_of chs) ≡ true → port_at chs k ≡ Some j → length s'.told ≡ length s.told → s'.retired ≡ retired_after r s.retired j → Fits chs w s → Fits chs (after_answer (Some r) w k) s'
fits_answered chs w s s' k j (polled.Word word) distinct port len retired fits = fits_same chs w (after_feed w k word) s s' (word_plug w k word) len retired fits
fits_answered chs w s s' k j polled.Empty distinct port len retired fits = fits_same chs w w s s' (λ l p. p) len retired fits
fits_answered chs w s s' k j polled.Closed distinct port len retired fits = fits_without chs w s s' k j distinct port len retired fits
fits_answered chs w s s' k j polled.Failed distinct port len retired fits = fits_without chs w s s' k j distinct port len retired fits

pub asks_one : (e e' : EngineState) (es es' : List Entry) (s s' : SlotsState) (k j : ℕ) (r : Polled) → IsHistory e es → can_feed e.core.world k ≡ true → Some j ≡ port_at (channels_of e) k → Fits (channels_of e) e.core.world s → Answers e e' es es' s s' k j r → AsksOne e e' es es' s s' k (Some r)
asks_one e e' es es' s s' k j r h can port fits did = record {
  asked = sym can;
  port = (j, sym port, did.told);
  went = did.went;
  core = did.core;
  fits = fits_in e e' e'.core.world s' did.went.image
      (subst (λ (c : Core). Fits (channels_of e) c.world s') (sym did.core)
      (fits_answered (channels_of e) e.core.world s s' k j r (ports_apart e es h) (sym port) (changed_length _ s.told s'.told j did.told) did.retired fits));
}

pub asks_nothing : (e : EngineState) (es : List Entry) (s : SlotsState) (k : ℕ) → IsHistory e es → can_feed e.core.world k ≡ false → Fits (channels_of e) e.core.world s → AsksOne e e es es s s k None
asks_nothing e es s k h can fits = record { asked = sym can; port = refl; went = went_none e es h; core = refl; fits = fits }
