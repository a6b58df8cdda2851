-- Each event takes one of the entries that are left.
use Rattle.std.proofs.Common.{◌≡◌, ℕ, zero, suc, ◌+◌, ◌*◌, ◌-◌, ◌<◌, ◌≤◌, List, [], ◌∷◌, ◌++◌, length, map, Option, Some, None, Bool, true, false, refl, sym, ap, subst, arith, replicate, length-append}
use Rattle.std.specs.Prelude.{slice_get, slice_set, nat_le, ◌&&◌, if◌then◌else◌}
use Rattle.std.specs.List.{list_all}
use Rattle.std.proofs.lemmas.Bool.{ltb-true, leb-true, and_parts}
use Rattle.std.proofs.lemmas.List.{length-drop}
use Rattle.micro_isa.specs.declared.limits.TheConstants.{MOST_RING}
use Rattle.micro_isa.specs.declared.program.Channel.{Channel}
use Rattle.micro_isa.specs.declared.program.Channel.TheVariants as channel
use Rattle.micro_isa.specs.declared.program.Setting.{Setting}
use Rattle.micro_isa.specs.Formed.{IsFormedSetting, has_formed_ring}
use Rattle.world.specs.declared.channel.ChannelKind.{ChannelKind}
use Rattle.world.specs.declared.channel.ChannelKind.TheVariants.{Inner, Incoming, Outgoing}
use Rattle.world.specs.declared.event.Phase.{Phase}
use Rattle.world.specs.declared.event.Phase.TheVariants.{Ready, Due, Receiving, Sending, Halted, Trapped}
use Rattle.world.specs.declared.event.Event.TheVariants.{Run}
use Rattle.world.specs.Channels.{ChannelState, is_incoming, has_room, with_word, without_head, without_port, ring_after, has_plugged_port}
use Rattle.world.specs.Opening.{opened_channel}
use Rattle.world.specs.WorldState.{WorldState, is_open_input, changed_at, sent_by, sent_at, after_feed, after_unplug, holds_at, is_plugged}
use Rattle.semantics.specs.declared.SegmentExit.{SegmentExit}
use Rattle.semantics.specs.Core.{Core, opening_core, steps_left, illegal_of, complete_phase, completion, completed, finished, phase_after, is_cut}
use Rattle.semantics.proofs.Waiting.{legal}
use Rattle.run_journal.specs.Room.{room_in, receives, entries_left, most_entries, total}

-- a sum where one item was set
pub sum_set : {A : Type 0} (f : A → ℕ) (xs : List A) (i : ℕ) (x y : A) → slice_get xs i ≡ Some x → total f (slice_set xs i y) + f x ≡ total f xs + f y
sum_set f [] i x y at = absurd (cc)
sum_set f (z ∷ xs) zero x y at = let e : z ≡ x = cc in let g : f z ≡ f x = ap f e in omega arith
sum_set f (z ∷ xs) (suc i) x y at = let h = sum_set f xs i x y at in omega (arith, h)

pub sum_set_most : {A : Type 0} (f : A → ℕ) (xs : List A) (i : ℕ) (y : A) → total f (slice_set xs i y) ≤ total f xs + f y
sum_set_most f [] i y = omega arith
sum_set_most f (z ∷ xs) zero y = omega arith
sum_set_most f (z ∷ xs) (suc i) y = let h = sum_set_most f xs i y in omega (arith, h)

-- one channel changed by a function
sum_changed : (chs : List ChannelState) (k : ℕ) (g : ChannelState → ChannelState) (n : ℕ) (o : Option ChannelState) → slice_get chs k ≡ o → ((ch : ChannelState) → o ≡ Some ch → room_in (g ch) ≤ room_in ch + n) → total room_in (changed_at g chs k o) ≤ total room_in chs + n
sum_changed chs k g n None at h = omega arith
sum_changed chs k g n (Some ch) at h =
    let s = sum_set room_in chs k ch (g ch) at in let l = h ch refl in omega (arith, s, l)

head_room : (open_still plugged : Bool) (capacity : ℕ) (left ring : List ℕ) → (if open_still then capacity - length (ring_after left ring) else 0) + (if plugged then 1 else 0) ≤ (if open_still then capacity - length ring else 0) + (if plugged then 1 else 0) + 1
head_room false plugged capacity left ring = omega arith
head_room true plugged capacity (w ∷ left) ring = omega arith
head_room true plugged capacity [] ring = let d = length-drop 1 ring in omega (arith, d)

inner_room : (ch : ChannelState) (word : ℕ) → room_in (with_word word ch) ≤ room_in ch + 0
inner_room ch word = by (is_open_input ch) (has_plugged_port ch) ch.capacity ch.ring
  where
    by : (b p : Bool) (capacity : ℕ) (ring : List ℕ) → (if b then capacity - length (ring ++ word ∷ []) else 0) + (if p then 1 else 0) ≤ (if b then capacity - length ring else 0) + (if p then 1 else 0) + 0
    by false p capacity ring = omega arith
    by true p capacity ring = let a = length-append ring (word ∷ []) in omega (arith, a)

sent_room : (kind : ChannelKind) (w : WorldState) (k word : ℕ) → total room_in (sent_by kind w k word).channels ≤ total room_in w.channels + 0
sent_room Inner w k word = sum_changed w.channels k (with_word word) 0 (slice_get w.channels k) refl (λ ch at. inner_room ch word)
sent_room Incoming w k word = omega arith
sent_room Outgoing w k word = omega arith

sent_at_room : (o : Option ChannelState) (w : WorldState) (k word : ℕ) → total room_in (sent_at o w k word).channels ≤ total room_in w.channels + 0
sent_at_room None w k word = omega arith
sent_at_room (Some ch) w k word = sent_room ch.kind w k word

-- a completion makes room for one word at most, and only where the context received one
complete_room : (w : WorldState) (phase : Phase) → total room_in (complete_phase w (Some phase)).world.channels ≤ total room_in w.channels + receives phase
complete_room w Ready = omega arith
complete_room w (Due word) = omega arith
complete_room w (Receiving k) =
    sum_changed w.channels k without_head 1 (slice_get w.channels k) refl (λ ch at. head_room (is_open_input ch) (has_plugged_port ch) ch.capacity ch.left ch.ring)
complete_room w (Sending k word) = sent_at_room (slice_get w.channels k) w k word
complete_room w Halted = omega arith
complete_room w (Trapped trap line) = omega arith

few_receive : (p : Phase) → receives p ≤ 1
few_receive Ready = omega arith
few_receive (Due word) = omega arith
few_receive (Receiving k) = omega arith
few_receive (Sending k word) = omega arith
few_receive Halted = omega arith
few_receive (Trapped trap line) = omega arith

there_is : {A : Type 0} (xs : List A) (i : ℕ) → i < length xs → (x : A) × (slice_get xs i ≡ Some x)
there_is [] i h = absurd (omega arith)
there_is (x ∷ xs) zero h = (x, refl)
there_is (x ∷ xs) (suc i) h = there_is xs i (omega arith)

-- a segment, whatever its instructions did, that spent a step or was cut
pub run_left : (core : Core) (c steps : ℕ) (why : SegmentExit) → illegal_of core (Run c) ≡ None → ((finished (completed core c) c steps why).over ≡ false → core.steps < (finished (completed core c) c steps why).steps) → (finished (completed core c) c steps why).steps ≤ (finished (completed core c) c steps why).world.bound → (finished (completed core c) c steps why).world.bound ≡ core.world.bound → entries_left (finished (completed core c) c steps why) + 1 ≤ entries_left core
run_left core c steps why may spent within same = by (is_cut why) refl core.over (legal core c may).open_still
  where
    after : Core
    after = finished (completed core c) c steps why

    by : (cut : Bool) → is_cut why ≡ cut → (o : Bool) → o ≡ false → (if is_cut why then 0 else 1 + 2 * steps_left (finished (completed core c) c steps why) + total room_in (completion core c).world.channels + total receives (slice_set (slice_set core.phases c Ready) c (phase_after (completion core c).world.memory why))) + 1 ≤ (if o then 0 else 1 + 2 * steps_left core + total room_in core.world.channels + total receives core.phases)
    by true e true eo = absurd (cc)
    by true e false eo = rw e (omega arith)
    by false e true eo = absurd (cc)
    by false e false eo =
        let p = there_is core.phases c (ltb-true c (length core.phases) (legal core c may).there) in
        let r = subst (λ o. total room_in (complete_phase core.world o).world.channels ≤ total room_in core.world.channels + receives p.0) (sym p.1) (complete_room core.world p.0) in
        let a = sum_set receives core.phases c p.0 Ready p.1 in
        let b = sum_set_most receives (slice_set core.phases c Ready) c (phase_after (completion core c).world.memory why) in
        let f = few_receive (phase_after (completion core c).world.memory why) in
        let s = spent e in
        rw e (omega (arith, r, a, b, f, s, within, same))

-- what an illegal feed or unplugging asks, turned round: an event of a channel that may happen
feed_room : (ch : ChannelState) (word : ℕ) → is_open_input ch ≡ true → has_room ch ≡ true → room_in (with_word word ch) + 1 ≤ room_in ch
feed_room ch word opened room =
    let a = length-append ch.ring (word ∷ []) in
    let l = ltb-true (length ch.ring) ch.capacity room in
    rw opened (omega (arith, a, l))

feed_sum : (chs : List ChannelState) (k word : ℕ) (o : Option ChannelState) → slice_get chs k ≡ o → holds_at is_open_input o ≡ true → holds_at has_room o ≡ true → total room_in (changed_at (with_word word) chs k o) + 1 ≤ total room_in chs
feed_sum chs k word None at a b = absurd (cc)
feed_sum chs k word (Some ch) at a b =
    let s = sum_set room_in chs k ch (with_word word ch) at in let l = feed_room ch word a b in omega (arith, s, l)

-- a fed word takes a place
pub feed_left : (core : Core) (k word : ℕ) → core.over ≡ false → holds_at is_open_input (slice_get core.world.channels k) ≡ true → holds_at has_room (slice_get core.world.channels k) ≡ true → entries_left (record core { world = after_feed core.world k word }) + 1 ≤ entries_left core
feed_left core k word goes opened room =
    let s = feed_sum core.world.channels k word (slice_get core.world.channels k) refl opened room in
    rw goes (omega (arith, s))

unplug_room : (ch : ChannelState) → has_plugged_port ch ≡ true → room_in (without_port ch) + 1 ≤ room_in ch
unplug_room ch plugged = by (is_incoming ch.kind)
  where
    by : (i : Bool) → (if (i && false) then ch.capacity - length ch.ring else 0) + 0 + 1 ≤ (if (i && (has_plugged_port ch)) then ch.capacity - length ch.ring else 0) + (if (has_plugged_port ch) then 1 else 0)
    by true = rw plugged (omega arith)
    by false = rw plugged (omega arith)

unplug_sum : (chs : List ChannelState) (k : ℕ) (o : Option ChannelState) → slice_get chs k ≡ o → holds_at has_plugged_port o ≡ true → total room_in (changed_at without_port chs k o) + 1 ≤ total room_in chs
unplug_sum chs k None at a = absurd (cc)
unplug_sum chs k (Some ch) at a =
    let s = sum_set room_in chs k ch (without_port ch) at in let l = unplug_room ch a in omega (arith, s, l)

-- an unplugging takes a plug
pub unplug_left : (core : Core) (k : ℕ) → core.over ≡ false → is_plugged core.world k ≡ true → entries_left (record core { world = after_unplug core.world k }) + 1 ≤ entries_left core
unplug_left core k goes plugged =
    let s = unplug_sum core.world.channels k (slice_get core.world.channels k) refl plugged in
    rw goes (omega (arith, s))

-- at the opening
opened_room : (ch : Channel) → has_formed_ring ch ≡ true → room_in (opened_channel ch) ≤ 1025
opened_room (channel.Inner capacity) h = omega arith
opened_room (channel.Input words None) h = omega arith
opened_room (channel.Input words (Some port)) h =
    let l = leb-true port.capacity MOST_RING (and_parts (nat_le 1 port.capacity) (nat_le port.capacity MOST_RING) h).1 in omega (arith, l)
opened_room (channel.Output None) h = omega arith
opened_room (channel.Output (Some port)) h = omega arith

opened_sum : (chs : List Channel) → list_all has_formed_ring chs ≡ true → total room_in (map opened_channel chs) ≤ 1025 * length chs
opened_sum [] h = omega arith
opened_sum (ch ∷ chs) h =
    let p = and_parts (has_formed_ring ch) (list_all has_formed_ring chs) h in
    let a = opened_room ch p.0 in
    let b = opened_sum chs p.1 in omega (arith, a, b)

none_receives : (n : ℕ) → total receives (replicate n Ready) ≡ 0
none_receives zero = refl
none_receives (suc n) = omega (arith, none_receives n)

pub opening_left : (s : Setting) (contexts bound : ℕ) → IsFormedSetting s → entries_left (opening_core s contexts bound) ≤ most_entries bound
opening_left s contexts bound formed =
    let a = opened_sum s.channels formed.rings in
    let b = none_receives contexts in omega (arith, a, b, formed.few)
