-- A turn keeps what ports must tell.
use Rattle.std.proofs.Common.{◌≡◌, ◌≢◌, ℕ, ◌<◌, List, [], ◌∷◌, ◌++◌, length, Option, Some, None, Bool, true, false, refl, sym, ap, ◌∙◌, subst, inl, inr, ◌⊎◌}
use Rattle.std.specs.Prelude.{slice_get, slice_set, slice_index_or, option_map, if◌then◌else◌, ◌||◌, nat_eq}
use Rattle.std.specs.List.{filter_map}
use Rattle.std.proofs.lemmas.List.{append-nil, length-set, get_or-set_other}
use Rattle.std.proofs.lemmas.Option.{same_Some, slice_get_within}
use Rattle.std.proofs.lemmas.Bool.{eq-eqb, ne_eqb, cases_eq, not-false}
use Rattle.micro_isa.specs.declared.program.Channel.{Channel}
use Rattle.micro_isa.specs.Formed.{port_of, is_distinct}
use Rattle.world.specs.declared.event.Entry.{Entry}
use Rattle.world.specs.declared.event.Entry.TheVariants as entry
use Rattle.world.specs.declared.event.Output.{Output}
use Rattle.world.specs.declared.event.SegmentEnd.{SegmentEnd}
use Rattle.world.specs.Channels.{has_plugged_port}
use Rattle.world.specs.WorldState.{WorldState, is_plugged, after_unplug}
use Rattle.semantics.specs.Core.{Core}
use Rattle.semantics.proofs.Waiting.{get-set_same, get-set_other}
use Rattle.ports.specs.declared.told.Told.{Told}
use Rattle.ports.specs.declared.port.Given.{Given}
use Rattle.ports.specs.declared.port.Given.TheVariants as given
use Rattle.ports.specs.SlotsState.{SlotsState, has}
use Rattle.ports.specs.Tales.{Puts, Changes}
use Rattle.run_journal.specs.declared.answers.Delivery.{Delivery}
use Rattle.run_journal.specs.Keeping.{used_by, PortsKept, port_at, fed_on, put_on, dropped_on, is_input}
use Rattle.run_journal.specs.Turning.{Fits, delivery, loses, LeftBy, HandedOver, Delivers}
use Rattle.run_journal.proofs.Keeping.{HandedBy, Handed, kept_handed, Quiet, kept_quiet}
use Rattle.run_journal.proofs.Worlds.{sent_list, SegmentDid, unplugged_other, unplugged_here, unplugged_kind, fed_more, dropped_more, put_more}
use Rattle.run_journal.proofs.Ports.{one_channel}

-- what a delivery is
pub record IsDelivery (chs : List Channel) (w : WorldState) (sent : Option Output) (d : Delivery) : Type 0 where
  pub sent_it : sent ≡ Some (record { channel = d.channel; word = d.word })
  pub plugged : is_plugged w d.channel ≡ true
  pub port : port_at chs d.channel ≡ Some d.port

delivered : (chs : List Channel) (w : WorldState) (o : Output) (d : Delivery) (b : Bool) (p : Option ℕ) → is_plugged w o.channel ≡ b → port_at chs o.channel ≡ p → (if b then option_map (λ j. record { channel = o.channel; port = j; word = o.word }) p else None) ≡ Some d → IsDelivery chs w (Some o) d
delivered chs w o d false p eb ep e = absurd (cc)
delivered chs w o d true None eb ep e = absurd (cc)
delivered chs w o d true (Some j) eb ep e =
    let same : record { channel = o.channel; port = j; word = o.word } ≡ d = same_Some (record { channel = o.channel; port = j; word = o.word }) d e in
    subst (λ x. IsDelivery chs w (Some o) x) same (record { sent_it = refl; plugged = eb; port = ep })

pub delivery_is : (chs : List Channel) (w : WorldState) (sent : Option Output) (d : Delivery) → delivery chs w sent ≡ Some d → IsDelivery chs w sent d
delivery_is chs w None d e = absurd (cc)
delivery_is chs w (Some o) d e = delivered chs w o d (is_plugged w o.channel) (port_at chs o.channel) refl refl e

not_plugged : (b : Bool) (p : Option ℕ) (j : ℕ) (f : ℕ → Delivery) → p ≡ Some j → (if b then option_map f p else None) ≡ None → b ≡ false
not_plugged false p j f e h = refl
not_plugged true None j f e h = absurd (cc)
not_plugged true (Some i) j f e h = absurd (cc)

-- where nothing is delivered, no word was put out on a channel with a port that is plugged
none_put : (chs : List Channel) (w : WorldState) (sent : Option Output) (k j : ℕ) → delivery chs w sent ≡ None → port_at chs k ≡ Some j → (put_on k (sent_list sent) ≡ []) ⊎ ((is_plugged w k ≡ false) × (o : Output) × (sent ≡ Some o) × (o.channel ≡ k))
none_put chs w None k j e p = inl refl
none_put chs w (Some o) k j e p = elim (cases_eq o.channel k) [
  | inr ne ↦ inl (rw (ne_eqb o.channel k ne) refl)
  | inl same ↦ inr (
    ap (is_plugged w) (sym same) ∙ not_plugged (is_plugged w o.channel) (port_at chs o.channel) j (λ i. record { channel = o.channel; port = i; word = o.word }) (ap (port_at chs) same ∙ p) e,
    o,
    refl,
    same,
  )
]

-- a segment's entry feeds nothing and unplugs nothing
fed_ran : (k c steps : ℕ) (end : SegmentEnd) (es lost : List Entry) → fed_on k lost ≡ [] → fed_on k (es ++ entry.Ran c steps end ∷ lost) ≡ fed_on k es
fed_ran k c steps end es lost none = fed_more k es (entry.Ran c steps end ∷ lost) ∙ ap (λ ws. fed_on k es ++ ws) none ∙ append-nil (fed_on k es)

or_nothing : (b : Bool) → (b || false) ≡ b
or_nothing true = refl
or_nothing false = refl

or_something : (b : Bool) → (b || true) ≡ true
or_something true = refl
or_something false = refl

dropped_ran : (k c steps : ℕ) (end : SegmentEnd) (es lost : List Entry) (b : Bool) → dropped_on k lost ≡ b → dropped_on k (es ++ entry.Ran c steps end ∷ lost) ≡ (dropped_on k es || b)
dropped_ran k c steps end es lost b e = dropped_more k es (entry.Ran c steps end ∷ lost) ∙ ap (λ x. dropped_on k es || x) e

-- what is put on a channel after a segment
put_ran : (before mid : Core) (sent : Option Output) (k : ℕ) → SegmentDid before mid sent → put_on k mid.world.outputs ≡ put_on k before.world.outputs ++ put_on k (sent_list sent)
put_ran before mid sent k did = ap (put_on k) did.outputs ∙ put_more k before.world.outputs (sent_list sent)

put_elsewhere : (d : Delivery) (k : ℕ) → k ≢ d.channel → put_on k ((record { channel = d.channel; word = d.word }) ∷ []) ≡ []
put_elsewhere d k ne = rw (ne_eqb d.channel k (λ e. ne (sym e))) refl

put_at_it : (d : Delivery) (k : ℕ) → k ≡ d.channel → put_on k ((record { channel = d.channel; word = d.word }) ∷ []) ≡ d.word ∷ []
put_at_it d k e = rw (eq-eqb d.channel k (sym e)) refl

drop_elsewhere : (l k : ℕ) → k ≢ l → dropped_on k (entry.Unplugged l ∷ []) ≡ false
drop_elsewhere l k ne = rw (ne_eqb l k (λ e. ne (sym e))) refl

drop_here : (l k : ℕ) → k ≡ l → dropped_on k (entry.Unplugged l ∷ []) ≡ true
drop_here l k e = rw (eq-eqb l k (sym e)) refl

module _ (chs : List Channel) (before mid : Core) (sent : Option Output) (es : List Entry) (idle c steps : ℕ) (end : SegmentEnd) (did : SegmentDid before mid sent) where
  -- nothing was delivered
  quiet_none : (k j : ℕ) → delivery chs mid.world sent ≡ None → port_at chs k ≡ Some j → Quiet (used_by es before idle k) (used_by (es ++ entry.Ran c steps end ∷ []) mid 0 k)
  quiet_none k j e p = record {
    fed = fed_ran k c steps end es [] refl;
    more = put_on k (sent_list sent);
    put = put_ran before mid sent k did;
    why = elim (none_put chs mid.world sent k j e p) [
      | inl none ↦ inl none
      | inr gone ↦ inr (sym (did.plugs k) ∙ gone.0, sym (ap (is_input before.world) gone.3) ∙ did.output gone.1 gone.2)
    ];
    dropped = dropped_ran k c steps end es [] false refl ∙ or_nothing (dropped_on k es);
    incoming = did.inputs k;
    plugged = did.plugs k;
    cut = λ o. did.whole;
    idle = inl refl;
  }

  -- a word was delivered for another channel
  quiet_other : (d : Delivery) (k : ℕ) → IsDelivery chs mid.world sent d → k ≢ d.channel → Quiet (used_by es before idle k) (used_by (es ++ entry.Ran c steps end ∷ []) mid 0 k)
  quiet_other d k is ne = record {
    fed = fed_ran k c steps end es [] refl;
    more = [];
    put = put_ran before mid sent k did ∙ ap (λ o. put_on k before.world.outputs ++ put_on k (sent_list o)) is.sent_it ∙ ap (λ ws. put_on k before.world.outputs ++ ws) (put_elsewhere d k ne);
    why = inl refl;
    dropped = dropped_ran k c steps end es [] false refl ∙ or_nothing (dropped_on k es);
    incoming = did.inputs k;
    plugged = did.plugs k;
    cut = λ o. did.whole;
    idle = inl refl;
  }

  -- and its port was lost
  quiet_lost : (d : Delivery) (k : ℕ) → IsDelivery chs mid.world sent d → k ≢ d.channel → Quiet (used_by es before idle k) (used_by (es ++ entry.Ran c steps end ∷ entry.Unplugged d.channel ∷ []) (record mid { world = after_unplug mid.world d.channel }) 0 k)
  quiet_lost d k is ne = record {
    fed = fed_ran k c steps end es (entry.Unplugged d.channel ∷ []) refl;
    more = [];
    put = put_ran before mid sent k did ∙ ap (λ o. put_on k before.world.outputs ++ put_on k (sent_list o)) is.sent_it ∙ ap (λ ws. put_on k before.world.outputs ++ ws) (put_elsewhere d k ne);
    why = inl refl;
    dropped = dropped_ran k c steps end es (entry.Unplugged d.channel ∷ []) false (drop_elsewhere d.channel k ne) ∙ or_nothing (dropped_on k es);
    incoming = unplugged_kind mid.world d.channel k ∙ did.inputs k;
    plugged = unplugged_other has_plugged_port mid.world d.channel k ne ∙ did.plugs k;
    cut = λ o. did.whole;
    idle = inl refl;
  }

  put_here : (d : Delivery) (k : ℕ) → IsDelivery chs mid.world sent d → k ≡ d.channel → put_on k mid.world.outputs ≡ put_on k before.world.outputs ++ d.word ∷ []
  put_here d k is e = put_ran before mid sent k did ∙ ap (λ o. put_on k before.world.outputs ++ put_on k (sent_list o)) is.sent_it ∙ ap (λ ws. put_on k before.world.outputs ++ ws) (put_at_it d k e)

  -- the word was delivered for this channel
  handed_kept : (d : Delivery) (k : ℕ) (g : Given) → IsDelivery chs mid.world sent d → k ≡ d.channel → HandedBy g (used_by es before idle k) (used_by (es ++ entry.Ran c steps end ∷ []) mid 0 k) → Handed (used_by es before idle k) d.word g (used_by (es ++ entry.Ran c steps end ∷ []) mid 0 k)
  handed_kept d k g is e by = record {
    fed = fed_ran k c steps end es [] refl;
    put = put_here d k is e;
    output = ap (is_input before.world) e ∙ did.output (record { channel = d.channel; word = d.word }) is.sent_it;
    incoming = did.inputs k;
    was = sym (did.plugs k) ∙ ap (is_plugged mid.world) e ∙ is.plugged;
    whole = did.whole;
    by = by;
    idle = refl;
  }

  handed_lost : (d : Delivery) (k : ℕ) (g : Given) → IsDelivery chs mid.world sent d → k ≡ d.channel → HandedBy g (used_by es before idle k) (used_by (es ++ entry.Ran c steps end ∷ entry.Unplugged d.channel ∷ []) (record mid { world = after_unplug mid.world d.channel }) 0 k) → Handed (used_by es before idle k) d.word g (used_by (es ++ entry.Ran c steps end ∷ entry.Unplugged d.channel ∷ []) (record mid { world = after_unplug mid.world d.channel }) 0 k)
  handed_lost d k g is e by = record {
    fed = fed_ran k c steps end es (entry.Unplugged d.channel ∷ []) refl;
    put = put_here d k is e;
    output = ap (is_input before.world) e ∙ did.output (record { channel = d.channel; word = d.word }) is.sent_it;
    incoming = unplugged_kind mid.world d.channel k ∙ did.inputs k;
    was = sym (did.plugs k) ∙ ap (is_plugged mid.world) e ∙ is.plugged;
    whole = did.whole;
    by = by;
    idle = refl;
  }

  by_lost : (d : Delivery) (k : ℕ) (g : Given) → k ≡ d.channel → loses g mid.over ≡ true → HandedBy g (used_by es before idle k) (used_by (es ++ entry.Ran c steps end ∷ entry.Unplugged d.channel ∷ []) (record mid { world = after_unplug mid.world d.channel }) 0 k)
  by_lost d k given.Took e h = absurd (cc)
  by_lost d k given.Failed e h = inl (
    ap (is_plugged (after_unplug mid.world d.channel)) e ∙ unplugged_here mid.world d.channel,
    dropped_ran k c steps end es (entry.Unplugged d.channel ∷ []) true (drop_here d.channel k e) ∙ or_something (dropped_on k es),
  )

  by_kept : (d : Delivery) (k : ℕ) (g : Given) → IsDelivery chs mid.world sent d → k ≡ d.channel → loses g mid.over ≡ false → HandedBy g (used_by es before idle k) (used_by (es ++ entry.Ran c steps end ∷ []) mid 0 k)
  by_kept d k given.Took is e h = (
    ap (is_plugged mid.world) e ∙ is.plugged,
    dropped_ran k c steps end es [] false refl ∙ or_nothing (dropped_on k es),
  )
  by_kept d k given.Failed is e h = inr (
    ap (is_plugged mid.world) e ∙ is.plugged,
    not-false mid.over h,
    dropped_ran k c steps end es [] false refl ∙ or_nothing (dropped_on k es),
  )

-- what one port of a list tells after a change
pub changed_here : (P : Told → Told → Type 0) (told told' : List Told) (i j : ℕ) (b : Told) → Changes P told i told' → j ≡ i → slice_get told' j ≡ Some b → (x : Told) × (slice_get told j ≡ Some x) × P x b
changed_here P told told' i j b ch e at =
    let within : i < length told = slice_get_within told i ch.before ch.there in
    let now : slice_get told' i ≡ Some ch.after = ap (λ l. slice_get l i) ch.changed ∙ get-set_same told i ch.after within in
    let same : ch.after ≡ b = same_Some ch.after b (sym now ∙ ap (slice_get told') (sym e) ∙ at) in
    (ch.before, ap (slice_get told) e ∙ ch.there, subst (P ch.before) same ch.did)

pub changed_other : (P : Told → Told → Type 0) (told told' : List Told) (i j : ℕ) → Changes P told i told' → j ≢ i → slice_get told' j ≡ slice_get told j
changed_other P told told' i j ch ne = ap (λ l. slice_get l j) ch.changed ∙ get-set_other told i j ch.after ne

pub changed_length : (P : Told → Told → Type 0) (told told' : List Told) (i : ℕ) → Changes P told i told' → length told' ≡ length told
changed_length P told told' i ch = ap length ch.changed ∙ length-set told i ch.after

-- a word was handed to the port of a channel
delivered_keeps : (chs : List Channel) (es es' : List Entry) (before after : Core) (idle : ℕ) (start told told' : List Told) (d : Delivery) (g : Given) → is_distinct nat_eq (filter_map port_of chs) ≡ true → port_at chs d.channel ≡ Some d.port → Changes (λ a b. Puts a d.word g b) told d.port told' → ((k : ℕ) → k ≡ d.channel → Handed (used_by es before idle k) d.word g (used_by es' after 0 k)) → ((k : ℕ) → k ≢ d.channel → Quiet (used_by es before idle k) (used_by es' after 0 k)) → PortsKept chs es before idle start told → PortsKept chs es' after 0 start told'
delivered_keeps chs es es' before after idle start told told' d g distinct port ch here other kept = record {
  as_many = changed_length _ told told' d.port ch ∙ kept.as_many;
  named = λ k j a b p sa sb. elim (cases_eq k d.channel) [
    | inl e ↦ (
        let same : j ≡ d.port = same_Some j d.port (sym p ∙ ap (port_at chs) e ∙ port) in
        let x = changed_here _ told told' d.port j b ch same sb in
        kept_handed a x.0 b (used_by es before idle k) (used_by es' after 0 k) d.word g (kept.named k j a x.0 p sa x.1) x.2 (here k e)
        )
    | inr ne ↦ (
        let apart : j ≢ d.port = λ e. ne (one_channel chs k d.channel j distinct p (port ∙ ap Some (sym e))) in
        kept_quiet a b (used_by es before idle k) (used_by es' after 0 k) (kept.named k j a b p sa (sym (changed_other _ told told' d.port j ch apart) ∙ sb)) (other k ne)
        )
  ];
  others = λ j none. changed_other _ told told' d.port j ch (λ e. none d.channel (port ∙ ap Some (sym e))) ∙ kept.others j none;
}

-- nothing was handed to a port
quiet_keeps : (chs : List Channel) (es es' : List Entry) (before after : Core) (idle : ℕ) (start told : List Told) → ((k j : ℕ) → port_at chs k ≡ Some j → Quiet (used_by es before idle k) (used_by es' after 0 k)) → PortsKept chs es before idle start told → PortsKept chs es' after 0 start told
quiet_keeps chs es es' before after idle start told quiet kept = record {
  as_many = kept.as_many;
  named = λ k j a b p sa sb. kept_quiet a b (used_by es before idle k) (used_by es' after 0 k) (kept.named k j a b p sa sb) (quiet k j p);
  others = kept.others;
}

left_keeps : (chs : List Channel) (before mid after : Core) (sent : Option Output) (slots slots' : SlotsState) (es lost : List Entry) (idle c steps : ℕ) (end : SegmentEnd) (start : List Told) (d : Delivery) → is_distinct nat_eq (filter_map port_of chs) ≡ true → SegmentDid before mid sent → IsDelivery chs mid.world sent d → (h : HandedOver mid after slots slots' d lost) → (b : Bool) → loses h.answer mid.over ≡ b → LeftBy b mid after slots slots' d lost → PortsKept chs es before idle start slots.told → PortsKept chs (es ++ entry.Ran c steps end ∷ lost) after 0 start slots'.told
left_keeps chs before mid after sent slots slots' es lost idle c steps end start d distinct did is h true e (same, retired, none) kept =
    subst (λ l. PortsKept chs (es ++ entry.Ran c steps end ∷ l) after 0 start slots'.told) (sym none)
    (subst (λ x. PortsKept chs (es ++ entry.Ran c steps end ∷ entry.Unplugged d.channel ∷ []) x 0 start slots'.told) (sym same)
    (delivered_keeps chs es (es ++ entry.Ran c steps end ∷ entry.Unplugged d.channel ∷ []) before (record mid { world = after_unplug mid.world d.channel }) idle start slots.told slots'.told d h.answer distinct is.port h.told
    (λ k q. handed_lost chs before mid sent es idle c steps end did d k h.answer is q (by_lost chs before mid sent es idle c steps end did d k h.answer q e))
    (λ k ne. quiet_lost chs before mid sent es idle c steps end did d k is ne)
    kept))
left_keeps chs before mid after sent slots slots' es lost idle c steps end start d distinct did is h false e (same, retired, none) kept =
    subst (λ l. PortsKept chs (es ++ entry.Ran c steps end ∷ l) after 0 start slots'.told) (sym none)
    (subst (λ x. PortsKept chs (es ++ entry.Ran c steps end ∷ []) x 0 start slots'.told) (sym same)
    (delivered_keeps chs es (es ++ entry.Ran c steps end ∷ []) before mid idle start slots.told slots'.told d h.answer distinct is.port h.told
    (λ k q. handed_kept chs before mid sent es idle c steps end did d k h.answer is q (by_kept chs before mid sent es idle c steps end did d k h.answer is q e))
    (λ k ne. quiet_other chs before mid sent es idle c steps end did d k is ne)
    kept))

turn_by : (chs : List Channel) (before mid after : Core) (sent : Option Output) (slots slots' : SlotsState) (es lost : List Entry) (idle c steps : ℕ) (end : SegmentEnd) (start : List Told) (o : Option Delivery) → delivery chs mid.world sent ≡ o → is_distinct nat_eq (filter_map port_of chs) ≡ true → SegmentDid before mid sent → Delivers o mid after slots slots' lost → PortsKept chs es before idle start slots.told → PortsKept chs (es ++ entry.Ran c steps end ∷ lost) after 0 start slots'.told
turn_by chs before mid after sent slots slots' es lost idle c steps end start None e distinct did (same, told, none) kept =
    subst (λ l. PortsKept chs (es ++ entry.Ran c steps end ∷ l) after 0 start slots'.told) (sym none)
    (subst (λ x. PortsKept chs (es ++ entry.Ran c steps end ∷ []) x 0 start slots'.told) (sym same)
    (subst (λ (s : SlotsState). PortsKept chs (es ++ entry.Ran c steps end ∷ []) mid 0 start s.told) (sym told)
    (quiet_keeps chs es (es ++ entry.Ran c steps end ∷ []) before mid idle start slots.told (λ k j p. quiet_none chs before mid sent es idle c steps end did k j e p) kept)))
turn_by chs before mid after sent slots slots' es lost idle c steps end start (Some d) e distinct did h kept =
    left_keeps chs before mid after sent slots slots' es lost idle c steps end start d distinct did (delivery_is chs mid.world sent d e) h (loses h.answer mid.over) refl h.left kept

-- a turn keeps what the ports must tell
pub turn_keeps : (chs : List Channel) (before mid after : Core) (sent : Option Output) (slots slots' : SlotsState) (es lost : List Entry) (idle c steps : ℕ) (end : SegmentEnd) (start : List Told) → is_distinct nat_eq (filter_map port_of chs) ≡ true → SegmentDid before mid sent → Delivers (delivery chs mid.world sent) mid after slots slots' lost → PortsKept chs es before idle start slots.told → PortsKept chs (es ++ entry.Ran c steps end ∷ lost) after 0 start slots'.told
turn_keeps chs before mid after sent slots slots' es lost idle c steps end start distinct did h kept =
    turn_by chs before mid after sent slots slots' es lost idle c steps end start (delivery chs mid.world sent) refl distinct did h kept

-- each plugged channel still has its port
pub has_same : (s s' : SlotsState) (j : ℕ) → length s'.told ≡ length s.told → slice_index_or s'.retired j false ≡ slice_index_or s.retired j false → has s j ≡ true → has s' j ≡ true
has_same s s' j l r h = rw (l, r) h

pub fits_same : (chs : List Channel) (w w' : WorldState) (s s' : SlotsState) → ((k : ℕ) → is_plugged w' k ≡ true → is_plugged w k ≡ true) → length s'.told ≡ length s.told → s'.retired ≡ s.retired → Fits chs w s → Fits chs w' s'
fits_same chs w w' s s' plugs l r fits = record {
  there = λ k p. let t = fits.there k (plugs k p) in (t.0, t.1, has_same s s' t.0 l (ap (λ x. slice_index_or x t.0 false) r) t.2);
}

pub plugged_other : (w : WorldState) (l k : ℕ) → is_plugged (after_unplug w l) k ≡ true → (k ≢ l) × (is_plugged w k ≡ true)
plugged_other w l k h = elim (cases_eq k l) [
  | inl e ↦ absurd (let f : is_plugged (after_unplug w l) k ≡ false = ap (is_plugged (after_unplug w l)) e ∙ unplugged_here w l in cc)
  | inr ne ↦ (ne, sym (unplugged_other has_plugged_port w l k ne) ∙ h)
]

-- a channel is unplugged, and its port is retired
pub fits_without : (chs : List Channel) (w : WorldState) (s s' : SlotsState) (l i : ℕ) → is_distinct nat_eq (filter_map port_of chs) ≡ true → port_at chs l ≡ Some i → length s'.told ≡ length s.told → s'.retired ≡ slice_set s.retired i true → Fits chs w s → Fits chs (after_unplug w l) s'
fits_without chs w s s' l i distinct port len retired fits = record {
  there = λ k p.
      let q = plugged_other w l k p in
      let t = fits.there k q.1 in
      let apart : t.0 ≢ i = λ e. q.0 (one_channel chs k l t.0 distinct t.1 (port ∙ ap Some (sym e))) in
      (t.0, t.1, has_same s s' t.0 len (ap (λ x. slice_index_or x t.0 false) retired ∙ get_or-set_other s.retired i t.0 true false apart) t.2);
}

fits_left : (chs : List Channel) (mid after : Core) (slots slots' : SlotsState) (d : Delivery) (lost : List Entry) → is_distinct nat_eq (filter_map port_of chs) ≡ true → port_at chs d.channel ≡ Some d.port → length slots'.told ≡ length slots.told → (b : Bool) → LeftBy b mid after slots slots' d lost → Fits chs mid.world slots → Fits chs after.world slots'
fits_left chs mid after slots slots' d lost distinct port len true (same, retired, none) fits =
    subst (λ (x : Core). Fits chs x.world slots') (sym same) (fits_without chs mid.world slots slots' d.channel d.port distinct port len retired fits)
fits_left chs mid after slots slots' d lost distinct port len false (same, retired, none) fits =
    subst (λ (x : Core). Fits chs x.world slots') (sym same) (fits_same chs mid.world mid.world slots slots' (λ k p. p) len retired fits)

fits_by : (chs : List Channel) (before mid after : Core) (sent : Option Output) (slots slots' : SlotsState) (lost : List Entry) (o : Option Delivery) → delivery chs mid.world sent ≡ o → is_distinct nat_eq (filter_map port_of chs) ≡ true → SegmentDid before mid sent → Delivers o mid after slots slots' lost → Fits chs before.world slots → Fits chs after.world slots'
fits_by chs before mid after sent slots slots' lost None e distinct did (same, told, none) fits =
    subst (λ (x : Core). Fits chs x.world slots') (sym same) (subst (λ s. Fits chs mid.world s) (sym told) (fits_same chs before.world mid.world slots slots (λ k p. sym (did.plugs k) ∙ p) refl refl fits))
fits_by chs before mid after sent slots slots' lost (Some d) e distinct did h fits =
    fits_left chs mid after slots slots' d lost distinct (delivery_is chs mid.world sent d e).port (changed_length _ slots.told slots'.told d.port h.told) (loses h.answer mid.over) h.left (fits_same chs before.world mid.world slots slots (λ k p. sym (did.plugs k) ∙ p) refl refl fits)

pub fits_after_turn : (chs : List Channel) (before mid after : Core) (sent : Option Output) (slots slots' : SlotsState) (lost : List Entry) → is_distinct nat_eq (filter_map port_of chs) ≡ true → SegmentDid before mid sent → Delivers (delivery chs mid.world sent) mid after slots slots' lost → Fits chs before.world slots → Fits chs after.world slots'
fits_after_turn chs before mid after sent slots slots' lost distinct did h fits =
    fits_by chs before mid after sent slots slots' lost (delivery chs mid.world sent) refl distinct did h fits
