-- What events leave of the channels and the words put out.
use Rattle.std.proofs.Common.{◌≡◌, ◌≢◌, ℕ, zero, suc, List, [], ◌∷◌, ◌++◌, map, Option, Some, None, Bool, false, refl, sym, ap, ◌∙◌}
use Rattle.std.specs.Prelude.{slice_get, slice_set, ◌==◌, ◌||◌, filter}
use Rattle.std.proofs.lemmas.List.{append-nil, map-append}
use Rattle.std.proofs.lemmas.Grind.{flat_map-append}
use Rattle.std.proofs.lemmas.List.Folds.{list_any-append}
use Rattle.std.proofs.lemmas.List.Elements.{filter-append}
use Rattle.world.specs.declared.channel.ChannelKind.{ChannelKind}
use Rattle.world.specs.declared.channel.ChannelKind.TheVariants.{Inner, Incoming, Outgoing}
use Rattle.world.specs.declared.event.Phase.{Phase}
use Rattle.world.specs.declared.event.Phase.TheVariants.{Ready, Due, Receiving, Sending, Halted, Trapped}
use Rattle.world.specs.declared.event.Event.TheVariants.{Run}
use Rattle.world.specs.declared.event.Seen.TheVariants as seen
use Rattle.world.specs.declared.event.Seen.{Seen}
use Rattle.world.specs.declared.event.Segment.{Segment}
use Rattle.world.specs.declared.event.Output.{Output}
use Rattle.world.specs.declared.event.Entry.{Entry}
use Rattle.world.specs.Channels.{ChannelState, is_incoming, with_word, without_head, without_port, has_plugged_port}
use Rattle.world.specs.WorldState.{WorldState, holds_at, is_plugged, changed_at, sent_by, sent_at, put_by, put_at, after_unplug}
use Rattle.semantics.specs.Core.{Core, complete_phase, completion, illegal_of}
use Rattle.semantics.specs.Events.{Semantics, Config, fire}
use Rattle.semantics.proofs.Waiting.{legal, get-set_other}
use Rattle.run_journal.specs.Keeping.{fed_one, fed_on, is_drop, dropped_on, put_on, is_input}

-- a test of the channels, where one channel changes that passes it as before
set_holds : (test : ChannelState → Bool) (xs : List ChannelState) (k j : ℕ) (x y : ChannelState) → slice_get xs k ≡ Some x → test y ≡ test x → holds_at test (slice_get (slice_set xs k y) j) ≡ holds_at test (slice_get xs j)
set_holds test [] k j x y at same = refl
set_holds test (z ∷ xs) zero zero x y at same = let e : z ≡ x = cc in same ∙ sym (ap test e)
set_holds test (z ∷ xs) zero (suc j) x y at same = refl
set_holds test (z ∷ xs) (suc k) zero x y at same = refl
set_holds test (z ∷ xs) (suc k) (suc j) x y at same = set_holds test xs k j x y at same

pub changed_holds : (test : ChannelState → Bool) (f : ChannelState → ChannelState) (xs : List ChannelState) (k j : ℕ) (o : Option ChannelState) → slice_get xs k ≡ o → ((ch : ChannelState) → test (f ch) ≡ test ch) → holds_at test (slice_get (changed_at f xs k o) j) ≡ holds_at test (slice_get xs j)
changed_holds test f xs k j None at same = refl
changed_holds test f xs k j (Some ch) at same = set_holds test xs k j ch (f ch) at (same ch)

-- a test that no word changes
pub record Wordless (test : ChannelState → Bool) : Type 0 where
  pub more : (word : ℕ) (ch : ChannelState) → test (with_word word ch) ≡ test ch
  pub less : (ch : ChannelState) → test (without_head ch) ≡ test ch

pub plug_wordless : Wordless has_plugged_port
plug_wordless = record { more = λ word ch. refl; less = λ ch. refl }

pub kind_wordless : Wordless (λ ch. is_incoming ch.kind)
kind_wordless = record { more = λ word ch. refl; less = λ ch. refl }

sent_holds : (test : ChannelState → Bool) → Wordless test → (kind : ChannelKind) (w : WorldState) (k word j : ℕ) → holds_at test (slice_get (sent_by kind w k word).channels j) ≡ holds_at test (slice_get w.channels j)
sent_holds test same Inner w k word j = changed_holds test (with_word word) w.channels k j (slice_get w.channels k) refl (same.more word)
sent_holds test same Incoming w k word j = refl
sent_holds test same Outgoing w k word j = refl

sent_at_holds : (test : ChannelState → Bool) → Wordless test → (o : Option ChannelState) (w : WorldState) (k word j : ℕ) → holds_at test (slice_get (sent_at o w k word).channels j) ≡ holds_at test (slice_get w.channels j)
sent_at_holds test same None w k word j = refl
sent_at_holds test same (Some ch) w k word j = sent_holds test same ch.kind w k word j

pub complete_holds : (test : ChannelState → Bool) → Wordless test → (w : WorldState) (o : Option Phase) (j : ℕ) → holds_at test (slice_get (complete_phase w o).world.channels j) ≡ holds_at test (slice_get w.channels j)
complete_holds test same w None j = refl
complete_holds test same w (Some Ready) j = refl
complete_holds test same w (Some (Due word)) j = refl
complete_holds test same w (Some (Receiving k)) j = changed_holds test without_head w.channels k j (slice_get w.channels k) refl same.less
complete_holds test same w (Some (Sending k word)) j = sent_at_holds test same (slice_get w.channels k) w k word j
complete_holds test same w (Some Halted) j = refl
complete_holds test same w (Some (Trapped trap line)) j = refl

-- what was put out is told
abbrev pub sent_list : Option Output → List Output
sent_list None = []
sent_list (Some o) = o ∷ []

sent_put : (kind : ChannelKind) (w : WorldState) (k word : ℕ) → (sent_by kind w k word).outputs ≡ w.outputs ++ sent_list (put_by kind k word)
sent_put Inner w k word = sym (append-nil w.outputs)
sent_put Incoming w k word = sym (append-nil w.outputs)
sent_put Outgoing w k word = refl

sent_at_put : (o : Option ChannelState) (w : WorldState) (k word : ℕ) → (sent_at o w k word).outputs ≡ w.outputs ++ sent_list (put_at o k word)
sent_at_put None w k word = sym (append-nil w.outputs)
sent_at_put (Some ch) w k word = sent_put ch.kind w k word

complete_put : (w : WorldState) (o : Option Phase) → (complete_phase w o).world.outputs ≡ w.outputs ++ sent_list (complete_phase w o).sent
complete_put w None = sym (append-nil w.outputs)
complete_put w (Some Ready) = sym (append-nil w.outputs)
complete_put w (Some (Due word)) = sym (append-nil w.outputs)
complete_put w (Some (Receiving k)) = sym (append-nil w.outputs)
complete_put w (Some (Sending k word)) = sent_at_put (slice_get w.channels k) w k word
complete_put w (Some Halted) = sym (append-nil w.outputs)
complete_put w (Some (Trapped trap line)) = sym (append-nil w.outputs)

-- a word goes out on an output alone
out_by : (kind : ChannelKind) (k word : ℕ) (out : Output) → put_by kind k word ≡ Some out → (is_incoming kind ≡ false) × (out.channel ≡ k)
out_by Inner k word out e = absurd (cc)
out_by Incoming k word out e = absurd (cc)
out_by Outgoing k word out e = (refl, sym (ap (λ (o : Option Output). elim o [ None ↦ k | Some x ↦ x.channel ]) e))

out_at : (o : Option ChannelState) (k word : ℕ) (out : Output) → put_at o k word ≡ Some out → (holds_at (λ ch. is_incoming ch.kind) o ≡ false) × (out.channel ≡ k)
out_at None k word out e = absurd (cc)
out_at (Some ch) k word out e = out_by ch.kind k word out e

complete_out : (w : WorldState) (o : Option Phase) (out : Output) → (complete_phase w o).sent ≡ Some out → is_input w out.channel ≡ false
complete_out w None out e = absurd (cc)
complete_out w (Some Ready) out e = absurd (cc)
complete_out w (Some (Due word)) out e = absurd (cc)
complete_out w (Some (Receiving k)) out e = absurd (cc)
complete_out w (Some (Sending k word)) out e =
    let h = out_at (slice_get w.channels k) k word out e in ap (is_input w) h.1 ∙ h.0
complete_out w (Some Halted) out e = absurd (cc)
complete_out w (Some (Trapped trap line)) out e = absurd (cc)

-- what a segment does with channels and outputs
pub record SegmentDid (before after : Core) (sent : Option Output) : Type 0 where
  pub plugs : (k : ℕ) → is_plugged after.world k ≡ is_plugged before.world k
  pub inputs : (k : ℕ) → is_input after.world k ≡ is_input before.world k
  pub outputs : after.world.outputs ≡ before.world.outputs ++ sent_list sent
  pub output : (o : Output) → sent ≡ Some o → is_input before.world o.channel ≡ false
  pub whole : before.over ≡ false

abbrev ran_sent : Segment → Seen → Option Output
ran_sent s (seen.Ran t) = t.sent
ran_sent s other = s.sent

pub segment_did : {X : Type 0} (rules : Semantics X) (m m' : Config X) (c : ℕ) (s : Segment) → illegal_of m.core (Run c) ≡ None → fire rules m (Run c) ≡ (m', seen.Ran s) → SegmentDid m.core m'.core s.sent
segment_did rules m m' c s may did = record {
  plugs = λ k. ap (λ p. is_plugged p.0.core.world k) (sym did) ∙ complete_holds has_plugged_port plug_wordless m.core.world (slice_get m.core.phases c) k;
  inputs = λ k. ap (λ p. is_input p.0.core.world k) (sym did) ∙ complete_holds (λ ch. is_incoming ch.kind) kind_wordless m.core.world (slice_get m.core.phases c) k;
  outputs = ap (λ p. p.0.core.world.outputs) (sym did) ∙ complete_put m.core.world (slice_get m.core.phases c) ∙ ap (λ o. m.core.world.outputs ++ sent_list o) sent;
  output = λ o e. complete_out m.core.world (slice_get m.core.phases c) o (sent ∙ e);
  whole = (legal m.core c may).open_still;
}
  where
    sent : (completion m.core c).sent ≡ s.sent
    sent = ap (λ p. ran_sent s p.1) did

-- a port that is unplugged
pub unplugged_other : (test : ChannelState → Bool) (w : WorldState) (k j : ℕ) → j ≢ k → holds_at test (slice_get (after_unplug w k).channels j) ≡ holds_at test (slice_get w.channels j)
unplugged_other test w k j ne = by (slice_get w.channels k)
  where
    by : (o : Option ChannelState) → holds_at test (slice_get (changed_at without_port w.channels k o) j) ≡ holds_at test (slice_get w.channels j)
    by None = refl
    by (Some ch) = ap (holds_at test) (get-set_other w.channels k j (without_port ch) ne)

gone_at : (chs : List ChannelState) (k : ℕ) (o : Option ChannelState) → slice_get chs k ≡ o → holds_at has_plugged_port (slice_get (changed_at without_port chs k o) k) ≡ false
gone_at chs k None at = ap (holds_at has_plugged_port) at
gone_at [] k (Some ch) at = absurd (cc)
gone_at (x ∷ chs) zero (Some ch) at = refl
gone_at (x ∷ chs) (suc k) (Some ch) at = gone_at chs k (Some ch) at

pub unplugged_here : (w : WorldState) (k : ℕ) → is_plugged (after_unplug w k) k ≡ false
unplugged_here w k = gone_at w.channels k (slice_get w.channels k) refl

pub unplugged_kind : (w : WorldState) (k j : ℕ) → is_input (after_unplug w k) j ≡ is_input w j
unplugged_kind w k j = changed_holds (λ ch. is_incoming ch.kind) without_port w.channels k j (slice_get w.channels k) refl (λ ch. refl)

-- entries one after another
pub fed_more : (k : ℕ) (xs ys : List Entry) → fed_on k (xs ++ ys) ≡ fed_on k xs ++ fed_on k ys
fed_more k xs ys = flat_map-append (fed_one k) xs ys

pub dropped_more : (k : ℕ) (xs ys : List Entry) → dropped_on k (xs ++ ys) ≡ (dropped_on k xs || dropped_on k ys)
dropped_more k xs ys = list_any-append (is_drop k) xs ys

pub put_more : (k : ℕ) (xs ys : List Output) → put_on k (xs ++ ys) ≡ put_on k xs ++ put_on k ys
put_more k xs ys =
    ap (map (λ o. o.word)) (filter-append (λ o. o.channel == k) xs ys) ∙ map-append (λ o. o.word) (filter (λ o. o.channel == k) xs) (filter (λ o. o.channel == k) ys)
