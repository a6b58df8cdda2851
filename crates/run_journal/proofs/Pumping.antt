-- A pump keeps what ports must tell.
use Rattle.std.proofs.Common.{◌≡◌, ◌≢◌, ℕ, zero, suc, ◌+◌, ◌<◌, ◌≤◌, List, [], ◌∷◌, ◌++◌, length, Option, Some, None, Bool, true, false, refl, sym, ap, ◌∙◌, subst, arith, inl, inr, ◌⊎◌, append_assoc, length-append}
use Rattle.std.specs.Prelude.{slice_get, option_map, ◌||◌, ◌&&◌, not, nat_eq}
use Rattle.std.specs.List.{filter_map}
use Rattle.std.specs.Option.{is_some}
use Rattle.std.proofs.lemmas.List.{append-nil}
use Rattle.std.proofs.lemmas.Option.{same_Some, slice_get_within}
use Rattle.std.proofs.lemmas.Bool.{eq-eqb, ne_eqb, cases_eq, and_parts}
use Rattle.micro_isa.specs.declared.program.Channel.{Channel}
use Rattle.micro_isa.specs.Formed.{port_of, is_distinct}
use Rattle.world.specs.declared.event.Entry.{Entry}
use Rattle.world.specs.Channels.{ChannelState, is_incoming, has_room, takes_feed, with_word, without_port, has_plugged_port}
use Rattle.world.specs.WorldState.{WorldState, holds_at, can_feed, changed_at}
use Rattle.semantics.specs.Core.{Core}
use Rattle.semantics.proofs.Waiting.{get-set_same, get-set_other}
use Rattle.ports.specs.declared.told.Told.{Told}
use Rattle.ports.specs.declared.port.Polled.{Polled}
use Rattle.ports.specs.declared.port.Polled.TheVariants as polled
use Rattle.ports.specs.Tales.{Polls, ends}
use Rattle.run_journal.specs.Keeping.{used_by, Kept, PortsKept, port_at, fed_on, put_on, dropped_on}
use Rattle.run_journal.specs.Pumping.{answer_at, answered, entries_from, answered_channel, PortAsked, words_at, ends_at, one_if, fed_in, dropped_in, Asks, after_answer, PortOf}
use Rattle.run_journal.proofs.Keeping.{Asked, kept_asked, Quiet, kept_quiet}
use Rattle.run_journal.proofs.Worlds.{fed_more, dropped_more}
use Rattle.run_journal.proofs.Ports.{one_channel}
use Rattle.run_journal.proofs.Turning.{changed_here, changed_other, changed_length}

-- the answers of one channel more
last_answer : (rs : List (Option Polled)) (a : Option Polled) (k : ℕ) → k ≡ length rs → answer_at (rs ++ a ∷ []) k ≡ a
last_answer [] a zero e = refl
last_answer [] a (suc k) e = absurd (omega arith)
last_answer (x ∷ rs) a zero e = absurd (omega arith)
last_answer (x ∷ rs) a (suc k) e = last_answer rs a k (omega arith)

other_answer : (rs : List (Option Polled)) (a : Option Polled) (k : ℕ) → k ≢ length rs → answer_at (rs ++ a ∷ []) k ≡ answer_at rs k
other_answer [] a zero ne = absurd (ne refl)
other_answer [] a (suc k) ne = refl
other_answer (x ∷ rs) a zero ne = refl
other_answer (x ∷ rs) a (suc k) ne = other_answer rs a k (λ e. ne (omega arith))

pub no_answer : (rs : List (Option Polled)) (k : ℕ) → length rs ≤ k → answer_at rs k ≡ None
no_answer [] k h = refl
no_answer (a ∷ rs) zero h = absurd (omega arith)
no_answer (a ∷ rs) (suc k) h = no_answer rs k (omega arith)

answer_within : (rs : List (Option Polled)) (k : ℕ) (r : Polled) → answer_at rs k ≡ Some r → k < length rs
answer_within [] k r h = absurd (cc)
answer_within (a ∷ rs) zero r h = omega arith
answer_within (a ∷ rs) (suc k) r h = omega (arith, answer_within rs k r h)

pub entries_more : (i : ℕ) (rs : List (Option Polled)) (a : Option Polled) → entries_from i (rs ++ a ∷ []) ≡ entries_from i rs ++ answered (i + length rs) a
entries_more i [] a = append-nil (answered i a) ∙ ap (λ k. answered k a) (omega arith)
entries_more i (x ∷ rs) a =
    ap (λ es. answered i x ++ es) (entries_more (i + 1) rs a ∙ ap (λ k. entries_from (i + 1) rs ++ answered k a) (omega arith))
    ∙ sym (append_assoc (answered i x) (entries_from (i + 1) rs) (answered (i + length (x ∷ rs)) a))

-- what the entries of a pump tell of one channel
fed_here : (i k : ℕ) (a : Option Polled) → i ≡ k → fed_on k (answered i a) ≡ words_at a
fed_here i k None e = refl
fed_here i k (Some (polled.Word w)) e = rw (eq-eqb i k e) refl
fed_here i k (Some polled.Empty) e = refl
fed_here i k (Some polled.Closed) e = refl
fed_here i k (Some polled.Failed) e = refl

fed_else : (i k : ℕ) (a : Option Polled) → i ≢ k → fed_on k (answered i a) ≡ []
fed_else i k None ne = refl
fed_else i k (Some (polled.Word w)) ne = rw (ne_eqb i k ne) refl
fed_else i k (Some polled.Empty) ne = refl
fed_else i k (Some polled.Closed) ne = refl
fed_else i k (Some polled.Failed) ne = refl

drop_at : (i k : ℕ) (a : Option Polled) → i ≡ k → dropped_on k (answered i a) ≡ ends_at a
drop_at i k None e = refl
drop_at i k (Some (polled.Word w)) e = refl
drop_at i k (Some polled.Empty) e = refl
drop_at i k (Some polled.Closed) e = rw (eq-eqb i k e) refl
drop_at i k (Some polled.Failed) e = rw (eq-eqb i k e) refl

drop_else : (i k : ℕ) (a : Option Polled) → i ≢ k → dropped_on k (answered i a) ≡ false
drop_else i k None ne = refl
drop_else i k (Some (polled.Word w)) ne = refl
drop_else i k (Some polled.Empty) ne = refl
drop_else i k (Some polled.Closed) ne = rw (ne_eqb i k ne) refl
drop_else i k (Some polled.Failed) ne = rw (ne_eqb i k ne) refl

fed_below : (i k : ℕ) (rs : List (Option Polled)) → k < i → fed_on k (entries_from i rs) ≡ []
fed_below i k [] lt = refl
fed_below i k (a ∷ rs) lt =
    fed_more k (answered i a) (entries_from (i + 1) rs)
    ∙ ap (λ ws. ws ++ fed_on k (entries_from (i + 1) rs)) (fed_else i k a (λ e. omega arith))
    ∙ fed_below (i + 1) k rs (omega arith)

drop_below : (i k : ℕ) (rs : List (Option Polled)) → k < i → dropped_on k (entries_from i rs) ≡ false
drop_below i k [] lt = refl
drop_below i k (a ∷ rs) lt =
    dropped_more k (answered i a) (entries_from (i + 1) rs)
    ∙ ap (λ b. b || dropped_on k (entries_from (i + 1) rs)) (drop_else i k a (λ e. omega arith))
    ∙ drop_below (i + 1) k rs (omega arith)

fed_from : (i k l : ℕ) (rs : List (Option Polled)) → l ≡ i + k → fed_on l (entries_from i rs) ≡ words_at (answer_at rs k)
fed_from i k l [] e = refl
fed_from i zero l (a ∷ rs) e =
    fed_more l (answered i a) (entries_from (i + 1) rs)
    ∙ ap (λ ws. fed_on l (answered i a) ++ ws) (fed_below (i + 1) l rs (omega arith))
    ∙ append-nil (fed_on l (answered i a))
    ∙ fed_here i l a (omega arith)
fed_from i (suc k) l (a ∷ rs) e =
    fed_more l (answered i a) (entries_from (i + 1) rs)
    ∙ ap (λ ws. ws ++ fed_on l (entries_from (i + 1) rs)) (fed_else i l a (λ h. omega arith))
    ∙ fed_from (i + 1) k l rs (omega arith)

or_nothing : (b : Bool) → (b || false) ≡ b
or_nothing true = refl
or_nothing false = refl

drop_from : (i k l : ℕ) (rs : List (Option Polled)) → l ≡ i + k → dropped_on l (entries_from i rs) ≡ ends_at (answer_at rs k)
drop_from i k l [] e = refl
drop_from i zero l (a ∷ rs) e =
    dropped_more l (answered i a) (entries_from (i + 1) rs)
    ∙ ap (λ b. dropped_on l (answered i a) || b) (drop_below (i + 1) l rs (omega arith))
    ∙ or_nothing (dropped_on l (answered i a))
    ∙ drop_at i l a (omega arith)
drop_from i (suc k) l (a ∷ rs) e =
    dropped_more l (answered i a) (entries_from (i + 1) rs)
    ∙ ap (λ b. b || dropped_on l (entries_from (i + 1) rs)) (drop_else i l a (λ h. omega arith))
    ∙ drop_from (i + 1) k l rs (omega arith)

pub fed_told : (k : ℕ) (rs : List (Option Polled)) → fed_on k (entries_from 0 rs) ≡ words_at (answer_at rs k)
fed_told k rs = fed_from 0 k k rs (omega arith)

pub drop_told : (k : ℕ) (rs : List (Option Polled)) → dropped_on k (entries_from 0 rs) ≡ ends_at (answer_at rs k)
drop_told k rs = drop_from 0 k k rs (omega arith)

-- where a channel can be fed, it is an input and plugged
feeds : (o : Option ChannelState) → holds_at takes_feed o ≡ true → (holds_at (λ ch. is_incoming ch.kind) o ≡ true) × (holds_at has_plugged_port o ≡ true) × (holds_at has_room o ≡ true)
feeds None h = absurd (cc)
feeds (Some ch) h =
    let a = and_parts (is_incoming ch.kind && (has_plugged_port ch)) (has_room ch) h in
    let b = and_parts (is_incoming ch.kind) (has_plugged_port ch) a.0 in
    (b.0, b.1, a.1)

kind_answered : (a : Option Polled) (o : Option ChannelState) → holds_at (λ ch. is_incoming ch.kind) (option_map (answered_channel a) o) ≡ holds_at (λ ch. is_incoming ch.kind) o
kind_answered a None = refl
kind_answered None (Some ch) = refl
kind_answered (Some (polled.Word w)) (Some ch) = refl
kind_answered (Some polled.Empty) (Some ch) = refl
kind_answered (Some polled.Closed) (Some ch) = refl
kind_answered (Some polled.Failed) (Some ch) = refl

plug_answered : (r : Polled) (o : Option ChannelState) → holds_at has_plugged_port o ≡ true → holds_at has_plugged_port (option_map (answered_channel (Some r)) o) ≡ not (ends r)
plug_answered r None h = absurd (cc)
plug_answered (polled.Word w) (Some ch) h = h
plug_answered polled.Empty (Some ch) h = h
plug_answered polled.Closed (Some ch) h = refl
plug_answered polled.Failed (Some ch) h = refl

map_same : (o : Option ChannelState) → option_map (answered_channel None) o ≡ o
map_same None = refl
map_same (Some ch) = refl

-- nothing was fed or lost
pub IsStill : Option Polled → Type 0
IsStill a = (words_at a ≡ []) × (ends_at a ≡ false)

pub still_same : (a : Option Polled) (o : Option ChannelState) → words_at a ≡ [] → ends_at a ≡ false → option_map (answered_channel a) o ≡ o
still_same a None w e = refl
still_same None (Some ch) w e = refl
still_same (Some (polled.Word x)) (Some ch) w e = absurd (cc)
still_same (Some polled.Empty) (Some ch) w e = refl
still_same (Some polled.Closed) (Some ch) w e = absurd (cc)
still_same (Some polled.Failed) (Some ch) w e = absurd (cc)

none_in : (ws : List ℕ) → length ws ≡ 0 → ws ≡ []
none_in [] e = refl
none_in (w ∷ ws) e = absurd (omega arith)

none_if : (b : Bool) → one_if b ≡ 0 → b ≡ false
none_if true e = absurd (omega arith)
none_if false e = refl

pub still_words : (rs : List (Option Polled)) (k : ℕ) → fed_in rs ≡ 0 → words_at (answer_at rs k) ≡ []
still_words [] k f = refl
still_words (a ∷ rs) zero f = none_in (words_at a) (omega arith)
still_words (a ∷ rs) (suc k) f = still_words rs k (omega arith)

pub still_ends : (rs : List (Option Polled)) (k : ℕ) → dropped_in rs ≡ 0 → ends_at (answer_at rs k) ≡ false
still_ends [] k f = refl
still_ends (a ∷ rs) zero f = none_if (ends_at a) (omega arith)
still_ends (a ∷ rs) (suc k) f = still_ends rs k (omega arith)

-- the idle count after a pump: 0; or one more, where nothing was fed or lost
abbrev pub IdleAfter : List (Option Polled) → ℕ → ℕ → Type 0
IdleAfter rs idle idle' = (idle' ≡ 0) ⊎ ((fed_in rs ≡ 0) × (dropped_in rs ≡ 0) × (idle' ≡ idle + 1))

module _ (chs : List Channel) (before after : Core) (told told' : List Told) (rs : List (Option Polled)) (n : ℕ) (did : Asks chs before after told told' rs n) (es : List Entry) (idle idle' : ℕ) (whole : (k : ℕ) → is_some (answer_at rs k) ≡ can_feed before.world k) (count : IdleAfter rs idle idle') where
  outputs_same : (k : ℕ) → put_on k after.world.outputs ≡ put_on k before.world.outputs
  outputs_same k = ap (λ (x : Core). put_on k x.world.outputs) did.core

  idle_asked : (k : ℕ) → can_feed before.world k ≡ true → (idle' ≡ 0) ⊎ ((can_feed before.world k ≡ true) × (idle' ≡ idle + 1))
  idle_asked k f = elim count [ inl e ↦ inl e | inr e ↦ inr (f, e.2) ]

  asked_used : (k : ℕ) (r : Polled) → answer_at rs k ≡ Some r → Asked (used_by es before idle k) r (used_by (es ++ entries_from 0 rs) after idle' k)
  asked_used k r e =
      let could : can_feed before.world k ≡ true = sym (whole k) ∙ ap is_some e in
      let f = feeds (slice_get before.world.channels k) could in
      record {
        fed = fed_more k es (entries_from 0 rs) ∙ ap (λ ws. fed_on k es ++ ws) (fed_told k rs ∙ ap words_at e);
        put = outputs_same k;
        dropped = dropped_more k es (entries_from 0 rs) ∙ ap (λ b. dropped_on k es || b) (drop_told k rs ∙ ap ends_at e);
        input = f.0;
        incoming = ap (holds_at (λ ch. is_incoming ch.kind)) (did.channels k) ∙ kind_answered (answer_at rs k) (slice_get before.world.channels k);
        was = f.1;
        plugged = ap (holds_at has_plugged_port) (did.channels k ∙ ap (λ a. option_map (answered_channel a) (slice_get before.world.channels k)) e) ∙ plug_answered r (slice_get before.world.channels k) f.1;
        idle = idle_asked k could;
      }

  same_there : (k : ℕ) → answer_at rs k ≡ None → slice_get after.world.channels k ≡ slice_get before.world.channels k
  same_there k e = did.channels k ∙ ap (λ a. option_map (answered_channel a) (slice_get before.world.channels k)) e ∙ map_same (slice_get before.world.channels k)

  quiet_used : (k : ℕ) → answer_at rs k ≡ None → Quiet (used_by es before idle k) (used_by (es ++ entries_from 0 rs) after idle' k)
  quiet_used k e = record {
    fed = fed_more k es (entries_from 0 rs) ∙ ap (λ ws. fed_on k es ++ ws) (fed_told k rs ∙ ap words_at e) ∙ append-nil (fed_on k es);
    more = [];
    put = outputs_same k ∙ sym (append-nil (put_on k before.world.outputs));
    why = inl refl;
    dropped = dropped_more k es (entries_from 0 rs) ∙ ap (λ b. dropped_on k es || b) (drop_told k rs ∙ ap ends_at e) ∙ or_nothing (dropped_on k es);
    incoming = ap (holds_at (λ ch. is_incoming ch.kind)) (same_there k e);
    plugged = ap (holds_at has_plugged_port) (same_there k e);
    cut = λ o. sym (ap (λ (x : Core). x.over) did.core) ∙ o;
    idle = inr (ap (holds_at takes_feed) (same_there k e) ∙ sym (whole k) ∙ ap is_some e);
  }

  by_answer : (start : List Told) (k j : ℕ) (a x b : Told) (o : Option Polled) → answer_at rs k ≡ o → Kept a x (used_by es before idle k) → PortAsked o x b → Kept a b (used_by (es ++ entries_from 0 rs) after idle' k)
  by_answer start k j a x b None e kept same = subst (λ y. Kept a y (used_by (es ++ entries_from 0 rs) after idle' k)) (sym same) (kept_quiet a x (used_by es before idle k) (used_by (es ++ entries_from 0 rs) after idle' k) kept (quiet_used k e))
  by_answer start k j a x b (Some r) e kept polls = kept_asked a x b (used_by es before idle k) (used_by (es ++ entries_from 0 rs) after idle' k) r kept polls (asked_used k r e)

  told_before : (j : ℕ) (b : Told) → slice_get told' j ≡ Some b → (x : Told) × (slice_get told j ≡ Some x)
  told_before j b at = there_in told j (omega (arith, slice_get_within told' j b at, did.tells))
    where
      there_in : (xs : List Told) (i : ℕ) → i < length xs → (x : Told) × (slice_get xs i ≡ Some x)
      there_in [] i h = absurd (omega arith)
      there_in (x ∷ xs) zero h = (x, refl)
      there_in (x ∷ xs) (suc i) h = there_in xs i (omega arith)

  -- a pump keeps what the ports must tell
  pub pump_keeps : (start : List Told) → PortsKept chs es before idle start told → PortsKept chs (es ++ entries_from 0 rs) after idle' start told'
  pump_keeps start kept = record {
    as_many = did.tells ∙ kept.as_many;
    named = λ k j a b p sa sb.
        let x = told_before j b sb in
        by_answer start k j a x.0 b (answer_at rs k) refl (kept.named k j a x.0 p sa x.1) (did.ports k j x.0 b p x.1 sb);
    others = λ j none. did.others j none ∙ kept.others j none;
  }

-- before the first channel
pub asks_none : (chs : List Channel) (before : Core) (told : List Told) → Asks chs before before told told [] 0
asks_none chs before told = record {
  as_many = refl;
  asked = λ k lt. absurd (omega arith);
  channels = λ k. sym (map_same (slice_get before.world.channels k));
  core = refl;
  tells = refl;
  ports = λ k j a b p sa sb. same_Some b a (sym sb ∙ sa);
  others = λ j none. refl;
}

changed_there : (f : ChannelState → ChannelState) (chs : List ChannelState) (k : ℕ) (o : Option ChannelState) → slice_get chs k ≡ o → slice_get (changed_at f chs k o) k ≡ option_map f (slice_get chs k)
changed_there f chs k None at = at ∙ sym (ap (option_map f) at)
changed_there f chs k (Some ch) at = get-set_same chs k (f ch) (slice_get_within chs k ch at) ∙ sym (ap (option_map f) at)

changed_else : (f : ChannelState → ChannelState) (chs : List ChannelState) (k j : ℕ) (o : Option ChannelState) → j ≢ k → slice_get (changed_at f chs k o) j ≡ slice_get chs j
changed_else f chs k j None ne = refl
changed_else f chs k j (Some ch) ne = get-set_other chs k j (f ch) ne

answer_there : (a : Option Polled) (w : WorldState) (k : ℕ) → slice_get (after_answer a w k).channels k ≡ option_map (answered_channel a) (slice_get w.channels k)
answer_there None w k = sym (map_same (slice_get w.channels k))
answer_there (Some (polled.Word word)) w k = changed_there (with_word word) w.channels k (slice_get w.channels k) refl
answer_there (Some polled.Empty) w k = sym (map_same (slice_get w.channels k))
answer_there (Some polled.Closed) w k = changed_there without_port w.channels k (slice_get w.channels k) refl
answer_there (Some polled.Failed) w k = changed_there without_port w.channels k (slice_get w.channels k) refl

answer_else : (a : Option Polled) (w : WorldState) (k j : ℕ) → j ≢ k → slice_get (after_answer a w k).channels j ≡ slice_get w.channels j
answer_else None w k j ne = refl
answer_else (Some (polled.Word word)) w k j ne = changed_else (with_word word) w.channels k j (slice_get w.channels k) ne
answer_else (Some polled.Empty) w k j ne = refl
answer_else (Some polled.Closed) w k j ne = changed_else without_port w.channels k j (slice_get w.channels k) ne
answer_else (Some polled.Failed) w k j ne = changed_else without_port w.channels k j (slice_get w.channels k) ne

answer_core : (a : Option Polled) (w : WorldState) (k : ℕ) → after_answer a w k ≡ record w { channels = (after_answer a w k).channels }
answer_core None w k = refl
answer_core (Some (polled.Word word)) w k = refl
answer_core (Some polled.Empty) w k = refl
answer_core (Some polled.Closed) w k = refl
answer_core (Some polled.Failed) w k = refl

port_length : (chs : List Channel) (o : Option Polled) (k : ℕ) (told told' : List Told) → PortOf chs o k told told' → length told' ≡ length told
port_length chs None k told told' h = ap length h
port_length chs (Some r) k told told' h = changed_length _ told told' h.0 h.2

port_else : (chs : List Channel) (o : Option Polled) (k j : ℕ) (told told' : List Told) → (port_at chs k ≡ Some j → ⊥) → PortOf chs o k told told' → slice_get told' j ≡ slice_get told j
port_else chs None k j told told' ne h = ap (λ l. slice_get l j) h
port_else chs (Some r) k j told told' ne h = changed_other _ told told' h.0 j h.2 (λ e. ne (h.1 ∙ ap Some (sym e)))

port_here : (chs : List Channel) (o : Option Polled) (k j : ℕ) (told told' : List Told) (a b : Told) → port_at chs k ≡ Some j → PortOf chs o k told told' → slice_get told j ≡ Some a → slice_get told' j ≡ Some b → PortAsked o a b
port_here chs None k j told told' a b p h sa sb = same_Some b a (sym sb ∙ ap (λ l. slice_get l j) h ∙ sa)
port_here chs (Some r) k j told told' a b p h sa sb =
    let x = changed_here _ told told' h.0 j b h.2 (same_Some j h.0 (sym p ∙ h.1)) sb in
    subst (λ y. Polls y r b) (same_Some x.0 a (sym x.1 ∙ sa)) x.2

-- one channel more
pub asks_more : (chs : List Channel) (before mid after : Core) (told told1 told2 : List Told) (rs : List (Option Polled)) (a : Option Polled) (n : ℕ) → is_distinct nat_eq (filter_map port_of chs) ≡ true → Asks chs before mid told told1 rs n → is_some a ≡ can_feed mid.world n → after ≡ record mid { world = after_answer a mid.world n } → PortOf chs a n told1 told2 → Asks chs before after told told2 (rs ++ a ∷ []) (n + 1)
asks_more chs before mid after told told1 told2 rs a n distinct so could same port = record {
  as_many = length-append rs (a ∷ []) ∙ ap (λ k. k + 1) so.as_many;
  asked = λ k lt. elim (cases_eq k n) [
    | inl e ↦ (ap is_some (here k e) ∙ could ∙ ap (λ k. can_feed mid.world k) (sym e) ∙ ap (holds_at takes_feed) (untouched k e))
    | inr ne ↦ (ap is_some (there k ne) ∙ so.asked k (omega arith))
  ];
  channels = λ k. elim (cases_eq k n) [
    | inl e ↦ (now k ∙ subst (λ i. slice_get (after_answer a mid.world i).channels k ≡ option_map (answered_channel a) (slice_get mid.world.channels k)) e (answer_there a mid.world k) ∙ ap (option_map (answered_channel a)) (untouched k e) ∙ ap (λ x. option_map (answered_channel x) (slice_get before.world.channels k)) (sym (here k e)))
    | inr ne ↦ (now k ∙ answer_else a mid.world n k ne ∙ so.channels k ∙ ap (λ x. option_map (answered_channel x) (slice_get before.world.channels k)) (sym (there k ne)))
  ];
  core = whole;
  tells = port_length chs a n told1 told2 port ∙ so.tells;
  ports = λ k j x z p sx sz. elim (cases_eq k n) [
    | inl e ↦ (
        let y = told_mid j z sz in
        let was : y.0 ≡ x = subst (λ o. PortAsked o x y.0) (no_answer rs k (omega (arith, so.as_many, e))) (so.ports k j x y.0 p sx y.1) in
        subst (λ o. PortAsked o x z) (sym (here k e)) (port_here chs a n j told1 told2 x z (ap (port_at chs) (sym e) ∙ p) port (y.1 ∙ ap Some was) sz)
        )
    | inr ne ↦ (
        let apart : port_at chs n ≡ Some j → ⊥ = λ q. ne (one_channel chs k n j distinct p q) in
        subst (λ o. PortAsked o x z) (sym (there k ne)) (so.ports k j x z p sx (sym (port_else chs a n j told1 told2 apart port) ∙ sz))
        )
  ];
  others = λ j none. port_else chs a n j told1 told2 (none n) port ∙ so.others j none;
}
  where
    here : (k : ℕ) → k ≡ n → answer_at (rs ++ a ∷ []) k ≡ a
    here k e = last_answer rs a k (e ∙ sym so.as_many)

    there : (k : ℕ) → k ≢ n → answer_at (rs ++ a ∷ []) k ≡ answer_at rs k
    there k ne = other_answer rs a k (λ e. ne (e ∙ so.as_many))

    untouched : (k : ℕ) → k ≡ n → slice_get mid.world.channels k ≡ slice_get before.world.channels k
    untouched k e = so.channels k ∙ ap (λ x. option_map (answered_channel x) (slice_get before.world.channels k)) (no_answer rs k (omega (arith, so.as_many, e))) ∙ map_same (slice_get before.world.channels k)

    now : (k : ℕ) → slice_get after.world.channels k ≡ slice_get (after_answer a mid.world n).channels k
    now k = ap (λ (x : Core). slice_get x.world.channels k) same

    whole : after ≡ record before { world = record before.world { channels = after.world.channels } }
    whole =
        same
        ∙ ap (λ w. record mid { world = w }) (answer_core a mid.world n)
        ∙ ap (λ (x : Core). record x { world = record x.world { channels = (after_answer a mid.world n).channels } }) so.core
        ∙ ap (λ (x : Core). record before { world = record before.world { channels = x.world.channels } }) (sym same)

    told_mid : (j : ℕ) (z : Told) → slice_get told2 j ≡ Some z → (y : Told) × (slice_get told1 j ≡ Some y)
    told_mid j z at = there_in told1 j (omega (arith, slice_get_within told2 j z at, port_length chs a n told1 told2 port))
      where
        there_in : (xs : List Told) (i : ℕ) → i < length xs → (x : Told) × (slice_get xs i ≡ Some x)
        there_in [] i h = absurd (omega arith)
        there_in (x ∷ xs) zero h = (x, refl)
        there_in (x ∷ xs) (suc i) h = there_in xs i (omega arith)
