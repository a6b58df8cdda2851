-- One event at a time.
use Rattle.std.proofs.Common.{◌≡◌, ℕ, ◌<◌, ◌≤◌, List, [], ◌∷◌, ◌++◌, length, Option, Some, None, Bool, true, false, refl, sym, ap, ◌∙◌, subst, append_assoc, arith, length-append}
use Rattle.std.proofs.lemmas.List.{append-nil}
use Rattle.world.specs.declared.event.Event.TheVariants.{Run, Feed, Unplug}
use Rattle.world.specs.declared.event.Seen.TheVariants as seen
use Rattle.world.specs.declared.event.Segment.{Segment}
use Rattle.world.specs.declared.event.Entry.{Entry}
use Rattle.world.specs.declared.event.Entry.TheVariants as entry
use Rattle.world.specs.WorldState.{is_plugged, can_feed}
use Rattle.semantics.specs.Core.{Core, illegal_of}
use Rattle.semantics.specs.Events.{step, fire}
use Rattle.semantics.specs.Entries.{LeadsTo}
use Rattle.semantics.specs.Machine.{machine_semantics}
use Rattle.semantics.proofs.Histories.{leads_append}
use Rattle.semantics.proofs.Waiting.{legal}
use Rattle.run_state.specs.Segments.{GoesOn}
use Rattle.engine_core.specs.EngineState.{EngineState, config_of}
use Rattle.run_journal.specs.Room.{most_entries}
use Rattle.run_journal.specs.Histories.{IsHistory, bound_of}
use Rattle.run_journal.specs.Parts.{Went, LosesWhere, HandsOver, Delivered, Advanced}
use Rattle.std.specs.Prelude.{slice_set, slice_index_or, nat_eq}
use Rattle.std.specs.List.{filter_map}
use Rattle.std.proofs.lemmas.Option.{same_Some}
use Rattle.micro_isa.specs.declared.program.Channel.{Channel}
use Rattle.micro_isa.specs.declared.image.Image.{Image}
use Rattle.micro_isa.specs.Formed.{port_of, is_distinct}
use Rattle.world.specs.declared.event.Output.{Output}
use Rattle.world.specs.WorldState.{WorldState, after_unplug}
use Rattle.ports.specs.declared.told.Told.{Told}
use Rattle.ports.specs.declared.port.Given.{Given}
use Rattle.ports.specs.declared.port.Given.TheVariants as given
use Rattle.ports.specs.SlotsState.{SlotsState, has}
use Rattle.ports.specs.Tales.{Puts, Changes}
use Rattle.run_journal.specs.declared.answers.Delivery.{Delivery}
use Rattle.run_journal.specs.Turning.{Fits, delivery, loses, LeftBy, Delivers}
use Rattle.run_journal.specs.Keeping.{PortsKept}
use Rattle.run_journal.specs.Histories.{channels_of}
use Rattle.run_journal.proofs.Worlds.{segment_did}
use Rattle.run_journal.proofs.Turning.{delivery_is, turn_keeps, fits_same, fits_after_turn, has_same, changed_length}
use Rattle.run_journal.proofs.Histories.{ran_left, fed_one_left, lost_one_left, history_ran, history_fed, history_lost, may_step, fed_core, lost_core, room_left}

pub went_ran : (e e' : EngineState) (es es' : List Entry) (c : ℕ) (s : Segment) → IsHistory e es → illegal_of e.core (Run c) ≡ None → e'.image ≡ e.image → fire (machine_semantics e.image) (config_of e) (Run c) ≡ (config_of e', seen.Ran s) → GoesOn e.core e'.core → es' ≡ es ++ entry.Ran c s.steps s.end ∷ [] → Went e e' es es' (entry.Ran c s.steps s.end ∷ [])
went_ran e e' es es' c s h may image did goes added = record {
  image = image;
  bound = goes.bound;
  known = subst (IsHistory e') (sym added) (history_ran e e' es c s h may image did goes);
  entries = added;
  leads = (config_of e', seen.Ran s, may_step (machine_semantics e.image) (config_of e) (config_of e') (Run c) (seen.Ran s) may did, refl, refl);
  left = ran_left (machine_semantics e.image) (config_of e) (config_of e') c s may did goes;
}

pub room_to_run : (e : EngineState) (es : List Entry) (c capacity : ℕ) → IsHistory e es → illegal_of e.core (Run c) ≡ None → most_entries (bound_of e) ≤ capacity → length es < capacity
room_to_run e es c capacity h may room = room_left e es capacity h (legal e.core c may).open_still room

pub went_fed : (e e' : EngineState) (es es' : List Entry) (k word : ℕ) → IsHistory e es → e.core.over ≡ false → can_feed e.core.world k ≡ true → e'.image ≡ e.image → step (machine_semantics e.image) (config_of e) (Feed k word) ≡ Some (config_of e', seen.Fed) → es' ≡ es ++ entry.Fed k word ∷ [] → Went e e' es es' (entry.Fed k word ∷ [])
went_fed e e' es es' k word h goes can image did added = record {
  image = image;
  bound = ap (λ (c : Core). c.world.bound) (fed_core e e' k word did);
  known = subst (IsHistory e') (sym added) (history_fed e e' es k word h goes can image did);
  entries = added;
  leads = (config_of e', seen.Fed, did, refl, refl);
  left = fed_one_left e e' k word goes can did;
}

pub went_lost : (e e' : EngineState) (es es' : List Entry) (k : ℕ) → IsHistory e es → e.core.over ≡ false → is_plugged e.core.world k ≡ true → e'.image ≡ e.image → step (machine_semantics e.image) (config_of e) (Unplug k) ≡ Some (config_of e', seen.Unplugged) → es' ≡ es ++ entry.Unplugged k ∷ [] → Went e e' es es' (entry.Unplugged k ∷ [])
went_lost e e' es es' k h goes plugged image did added = record {
  image = image;
  bound = ap (λ (c : Core). c.world.bound) (lost_core e e' k did);
  known = subst (IsHistory e') (sym added) (history_lost e e' es k h goes plugged image did);
  entries = added;
  leads = (config_of e', seen.Unplugged, did, refl, refl);
  left = lost_one_left e e' k goes plugged did;
}

-- nothing went
pub went_none : (e : EngineState) (es : List Entry) → IsHistory e es → Went e e es es []
went_none e es h = record { image = refl; bound = refl; known = h; entries = sym (append-nil es); leads = refl; left = omega arith }

pub went_on : (e e1 e2 : EngineState) (es es1 es2 xs ys : List Entry) → Went e e1 es es1 xs → Went e1 e2 es1 es2 ys → Went e e2 es es2 (xs ++ ys)
went_on e e1 e2 es es1 es2 xs ys a b = record {
  image = b.image ∙ a.image;
  bound = b.bound ∙ a.bound;
  known = b.known;
  entries = b.entries ∙ ap (λ l. l ++ ys) a.entries ∙ append_assoc es xs ys;
  leads = leads_append (machine_semantics e.image) (config_of e) (config_of e1) (config_of e2) xs ys a.leads (subst (λ m. LeadsTo (machine_semantics m) (config_of e1) ys (config_of e2)) a.image b.leads);
  left = omega (arith, a.left, b.left, length-append xs ys);
}

-- a port is lost, or it is not
pub loses_one : (e e' : EngineState) (es es' : List Entry) (s s' : SlotsState) (d : Delivery) → Went e e' es es' (entry.Unplugged d.channel ∷ []) → e'.core ≡ record e.core { world = after_unplug e.core.world d.channel } → s'.retired ≡ slice_set s.retired d.port true → LosesWhere true e e' es es' s s' d
loses_one e e' es es' s s' d went core retired = record { own = entry.Unplugged d.channel ∷ []; went = went; left = (core, retired, refl) }

pub loses_none : (e : EngineState) (es : List Entry) (s : SlotsState) (d : Delivery) → IsHistory e es → LosesWhere false e e es es s s d
loses_none e es s d h = record { own = []; went = went_none e es h; left = (refl, refl, refl) }

retired_as : (b : Bool) (before after : Core) (s s1 s2 : SlotsState) (d : Delivery) (own : List Entry) → s1.retired ≡ s.retired → LeftBy b before after s1 s2 d own → LeftBy b before after s s2 d own
retired_as true before after s s1 s2 d own e (core, retired, none) = (core, retired ∙ ap (λ r. slice_set r d.port true) e, none)
retired_as false before after s s1 s2 d own e (core, retired, none) = (core, retired ∙ e, none)

pub hands_over : (e e' : EngineState) (es es' : List Entry) (s s1 s2 : SlotsState) (d : Delivery) (g : Given) (b cut : Bool) → Changes (λ x y. Puts x d.word g y) s.told d.port s1.told → s1.retired ≡ s.retired → b ≡ loses g cut → cut ≡ e.core.over → s2.told ≡ s1.told → LosesWhere b e e' es es' s1 s2 d → HandsOver e e' es es' s s2 d
hands_over e e' es es' s s1 s2 d g b cut told retired lost over same did = record {
  own = did.own;
  went = did.went;
  handed = record {
    answer = g;
    told = subst (λ t. Changes (λ x y. Puts x d.word g y) s.told d.port t) (sym same) told;
    left = subst (λ x. LeftBy x e.core e'.core s s2 d did.own) (lost ∙ ap (loses g) over) (retired_as b e.core e'.core s s1 s2 d did.own retired did.left);
  };
}

-- where a port is lost the run is not over
pub not_over : (g : Given) (b cut over : Bool) → b ≡ loses g cut → cut ≡ over → b ≡ true → over ≡ false
not_over given.Took b cut over e o t = absurd (let f : true ≡ false = sym t ∙ e in cc)
not_over given.Failed b true over e o t = absurd (let f : true ≡ false = sym t ∙ e in cc)
not_over given.Failed b false over e o t = sym o

-- after a word was handed the port is still there
pub still_there : (P : Told → Told → Type 0) (s s1 : SlotsState) (j : ℕ) → Changes P s.told j s1.told → s1.retired ≡ s.retired → has s j ≡ true → has s1 j ≡ true
still_there P s s1 j ch r h = has_same s s1 j (changed_length P s.told s1.told j ch) (ap (λ x. slice_index_or x j false) r) h

-- a delivery finds its port
pub delivers_to : (chs : List Channel) (w : WorldState) (sent : Option Output) (s : SlotsState) (d : Delivery) → Fits chs w s → delivery chs w sent ≡ Some d → (is_plugged w d.channel ≡ true) × (has s d.port ≡ true)
delivers_to chs w sent s d fits e =
    let is = delivery_is chs w sent d e in
    let t = fits.there d.channel is.plugged in
    (is.plugged, ap (has s) (same_Some d.port t.0 (sym is.port ∙ t.1)) ∙ t.2)

pub delivered_one : (e e' : EngineState) (es es' : List Entry) (s s' : SlotsState) (sent : Option Output) (d : Delivery) → delivery (channels_of e) e.core.world sent ≡ Some d → HandsOver e e' es es' s s' d → Delivered e e' es es' s s' sent
delivered_one e e' es es' s s' sent d is did = record {
  lost = did.own;
  went = did.went;
  delivers = subst (λ o. Delivers o e.core e'.core s s' did.own) (sym is) did.handed;
}

pub delivered_none : (e : EngineState) (es : List Entry) (s : SlotsState) (sent : Option Output) → IsHistory e es → delivery (channels_of e) e.core.world sent ≡ None → Delivered e e es es s s sent
delivered_none e es s sent h is = record {
  lost = [];
  went = went_none e es h;
  delivers = subst (λ o. Delivers o e.core e.core s s []) (sym is) (refl, refl, refl);
}

-- a segment, and then what followed it
pub advanced : (e e1 e2 : EngineState) (es es1 es2 : List Entry) (s s' : SlotsState) (c : ℕ) (seg : Segment) → illegal_of e.core (Run c) ≡ None → fire (machine_semantics e.image) (config_of e) (Run c) ≡ (config_of e1, seen.Ran seg) → Went e e1 es es1 (entry.Ran c seg.steps seg.end ∷ []) → Delivered e1 e2 es1 es2 s s' seg.sent → Advanced e e2 es es2 s s' c (entry.Ran c seg.steps seg.end)
advanced e e1 e2 es es1 es2 s s' c seg may did went del = record {
  segment = seg;
  middle = config_of e1;
  may = may;
  ran = did;
  tells = refl;
  lost = del.lost;
  went = went_on e e1 e2 es es1 es2 (entry.Ran c seg.steps seg.end ∷ []) del.lost went del.went;
  delivers = subst (λ (m : Image). Delivers (delivery m.setting.channels e1.core.world seg.sent) e1.core e2.core s s' del.lost) went.image del.delivers;
}

-- ports have numbers of their own
pub ports_apart : (e : EngineState) (es : List Entry) → IsHistory e es → is_distinct nat_eq (filter_map port_of (channels_of e)) ≡ true
ports_apart e es h = h.formed.setting.distinct

fits_in : (e e' : EngineState) (w : WorldState) (s : SlotsState) → e'.image ≡ e.image → Fits (channels_of e) w s → Fits (channels_of e') w s
fits_in e e' w s same fits = subst (λ (m : Image). Fits m.setting.channels w s) (sym same) fits

pub fits_middle : (e e1 : EngineState) (es es1 : List Entry) (s : SlotsState) (c : ℕ) (seg : Segment) → illegal_of e.core (Run c) ≡ None → fire (machine_semantics e.image) (config_of e) (Run c) ≡ (config_of e1, seen.Ran seg) → Went e e1 es es1 (entry.Ran c seg.steps seg.end ∷ []) → Fits (channels_of e) e.core.world s → Fits (channels_of e1) e1.core.world s
fits_middle e e1 es es1 s c seg may did went fits =
    let d = segment_did (machine_semantics e.image) (config_of e) (config_of e1) c seg may did in
    fits_in e e1 e1.core.world s went.image (fits_same (channels_of e) e.core.world e1.core.world s s (λ k p. sym (d.plugs k) ∙ p) refl refl fits)

pub fits_advanced : (e e' : EngineState) (es es' : List Entry) (s s' : SlotsState) (c : ℕ) (told : Entry) → IsHistory e es → Advanced e e' es es' s s' c told → Fits (channels_of e) e.core.world s → Fits (channels_of e') e'.core.world s'
fits_advanced e e' es es' s s' c told h did fits =
    fits_in e e' e'.core.world s' did.went.image
    (fits_after_turn (channels_of e) e.core did.middle.core e'.core did.segment.sent s s' did.lost (ports_apart e es h) (segment_did (machine_semantics e.image) (config_of e) did.middle c did.segment did.may did.ran) did.delivers fits)

-- a turn keeps what the ports must tell
pub advanced_keeps : (e e' : EngineState) (es es' : List Entry) (s s' : SlotsState) (c : ℕ) (told : Entry) (idle : ℕ) (start : List Told) → IsHistory e es → Advanced e e' es es' s s' c told → PortsKept (channels_of e) es e.core idle start s.told → PortsKept (channels_of e') es' e'.core 0 start s'.told
advanced_keeps e e' es es' s s' c told idle start h did kept =
    subst (λ (m : Image). PortsKept m.setting.channels es' e'.core 0 start s'.told) (sym did.went.image)
    (subst (λ l. PortsKept (channels_of e) l e'.core 0 start s'.told) (ap (λ t. es ++ t ∷ did.lost) (sym did.tells) ∙ sym did.went.entries)
    (turn_keeps (channels_of e) e.core did.middle.core e'.core did.segment.sent s s' es did.lost idle c did.segment.steps did.segment.end start (ports_apart e es h) (segment_did (machine_semantics e.image) (config_of e) did.middle c did.segment did.may did.ran) did.delivers kept))
