-- One event more: the run stays the replay of its entries, with room for all that can come.
use Rattle.std.proofs.Common.{◌≡◌, ℕ, zero, suc, ◌+◌, ◌*◌, ◌<◌, ◌≤◌, List, [], ◌∷◌, ◌++◌, length, Option, Some, None, Bool, true, false, refl, sym, ap, ◌∙◌, subst, arith, length-append}
use Rattle.std.specs.Prelude.{slice_get, if◌then◌else◌, ◌||◌, ◌&&◌, nat_lt}
use Rattle.std.specs.List.{list_all}
use Rattle.std.proofs.lemmas.Bool.{lt-ltb, and_parts}
use Rattle.micro_isa.specs.declared.limits.TheConstants.{MOST_STEPS}
use Rattle.micro_isa.specs.Formed.{IsFormedImage}
use Rattle.world.specs.declared.event.Event.{Event}
use Rattle.world.specs.declared.event.Event.TheVariants.{Run, Feed, Unplug}
use Rattle.world.specs.declared.event.Trap.TheVariants.{Address}
use Rattle.world.specs.declared.event.Seen.{Seen}
use Rattle.world.specs.declared.event.Seen.TheVariants as seen
use Rattle.world.specs.declared.event.Segment.{Segment}
use Rattle.world.specs.declared.event.SegmentEnd.{SegmentEnd}
use Rattle.world.specs.declared.event.SegmentEnd.TheVariants as end
use Rattle.world.specs.declared.event.Entry.{Entry}
use Rattle.world.specs.declared.event.Entry.TheVariants as entry
use Rattle.world.specs.declared.event.End.TheVariants as ending
use Rattle.world.specs.declared.event.Illegal.TheVariants as illegal
use Rattle.world.specs.Channels.{ChannelState, is_incoming, has_room, takes_feed, has_plugged_port}
use Rattle.world.specs.WorldState.{WorldState, holds_at, is_plugged, can_feed, after_feed, after_unplug, is_open_input, has_open_input}
use Rattle.semantics.specs.declared.SegmentExit.{SegmentExit}
use Rattle.semantics.specs.declared.SegmentExit.TheVariants as stop
use Rattle.semantics.specs.Core.{Core, illegal_of, is_runnable, can_go_on, some_runnable, ending_of, has_ended, end_after, is_cut, steps_left}
use Rattle.semantics.specs.Events.{Semantics, Config, fire, step}
use Rattle.semantics.specs.Entries.{event_of, entry_seen, LeadsTo}
use Rattle.semantics.specs.Machine.{Machine, machine_semantics, machine_open}
use Rattle.semantics.proofs.Histories.{leads_more, legal_step, stepped}
use Rattle.run_state.specs.Segments.{GoesOn}
use Rattle.engine_core.specs.EngineState.{EngineState, config_of}
use Rattle.run_journal.specs.Room.{entries_left, most_entries, total, room_in, receives}
use Rattle.run_journal.specs.Histories.{IsHistory, bound_of, is_bound}
use Rattle.run_journal.proofs.Counting.{run_left, feed_left, unplug_left}

-- a channel that can be fed
plugged_by : (o : Option ChannelState) → holds_at takes_feed o ≡ true → (holds_at has_plugged_port o ≡ true) × (holds_at is_open_input o ≡ true) × (holds_at has_room o ≡ true)
plugged_by None h = absurd (cc)
plugged_by (Some ch) h =
    let a = and_parts (is_incoming ch.kind && (has_plugged_port ch)) (has_room ch) h in
    let b = and_parts (is_incoming ch.kind) (has_plugged_port ch) a.0 in
    (b.1, a.0, a.1)

pub feed_plugged : (w : WorldState) (k : ℕ) → can_feed w k ≡ true → is_plugged w k ≡ true
feed_plugged w k h = (plugged_by (slice_get w.channels k) h).0

-- a context that may run
still_by : (core : Core) (o a r : Bool) → core.over ≡ o → (if o then Some ending.Bound else (if a then Some ending.Finished else (if r then None else Some ending.Stuck))) ≡ None → core.over ≡ false
still_by core true a r eo h = absurd (cc)
still_by core false a r eo h = eo

pub goes_still : (core : Core) → ending_of core ≡ None → core.over ≡ false
goes_still core h = still_by core core.over (list_all has_ended core.phases) (some_runnable core || has_open_input core.world) refl h

there_where : (w : WorldState) (phases : List _) (c : ℕ) → can_go_on w (slice_get phases c) ≡ true → c < length phases
there_where w [] c h = absurd (cc)
there_where w (p ∷ ps) zero h = omega arith
there_where w (p ∷ ps) (suc c) h = omega (arith, there_where w ps c h)

pub run_may : (core : Core) (c : ℕ) → ending_of core ≡ None → is_runnable core c ≡ true → illegal_of core (Run c) ≡ None
run_may core c goes can =
    ap (λ o. if o then Some illegal.Over else (if nat_lt c (length core.phases) then (if is_runnable core c then None else Some illegal.NotRunnable) else Some illegal.NoContext)) (goes_still core goes)
    ∙ ap (λ t. if t then (if is_runnable core c then None else Some illegal.NotRunnable) else Some illegal.NoContext) (lt-ltb c (length core.phases) (there_where core.world core.phases c can))
    ∙ ap (λ r. if r then None else Some illegal.NotRunnable) can

-- a step that may happen
pub may_step : {X : Type 0} (rules : Semantics X) (m n : Config X) (e : Event) (s : Seen) → illegal_of m.core e ≡ None → fire rules m e ≡ (n, s) → step rules m e ≡ Some (n, s)
may_step rules m n e s may did = legal_step rules m e may ∙ ap Some did

ran_of : Segment → Seen → Segment
ran_of s (seen.Ran t) = t
ran_of s other = s

-- one segment more takes an entry
pub ran_left : {X : Type 0} (rules : Semantics X) (m m' : Config X) (c : ℕ) (s : Segment) → illegal_of m.core (Run c) ≡ None → fire rules m (Run c) ≡ (m', seen.Ran s) → GoesOn m.core m'.core → entries_left m'.core + 1 ≤ entries_left m.core
ran_left {X} rules m m' c s may did goes =
    subst (λ (core : Core). GoesOn m.core core → entries_left core + 1 ≤ entries_left m.core) (ap (λ (p : Config X × Seen). p.0.core) did)
    (λ g. run_left m.core c _ _ may g.spent g.within g.bound) goes

-- one entry more in a history
one_more : (a b c d most : ℕ) → a + d ≤ most → c + 1 ≤ d → b ≡ a + 1 → b + c ≤ most
one_more a b c d most h l e = omega (arith, h, l, e)

pub history_more : (e e' : EngineState) (es : List Entry) (x : Entry) (s : Seen) → IsHistory e es → e'.image ≡ e.image → bound_of e' ≡ bound_of e → step (machine_semantics e.image) (config_of e) (event_of x) ≡ Some (config_of e', s) → entry_seen x s ≡ x → entries_left e'.core + 1 ≤ entries_left e.core → IsHistory e' (es ++ x ∷ [])
history_more e e' es x s h image bound did told left = record {
  formed = subst IsFormedImage (sym image) h.formed;
  small = subst (λ b. b ≤ MOST_STEPS) (sym bound) h.small;
  legal = subst (λ m. LeadsTo (machine_semantics m) (machine_open m (bound_of e')) (es ++ x ∷ []) (config_of e')) (sym image)
      (subst (λ b. LeadsTo (machine_semantics e.image) (machine_open e.image b) (es ++ x ∷ []) (config_of e')) (sym bound)
      (leads_more (machine_semantics e.image) (machine_open e.image (bound_of e)) (config_of e) (config_of e') es x s h.legal did told));
  few = subst (λ b. length (es ++ x ∷ []) + entries_left e'.core ≤ most_entries b) (sym bound)
      (one_more (length es) (length (es ++ x ∷ [])) (entries_left e'.core) (entries_left e.core) (most_entries (bound_of e)) h.few left (length-append es (x ∷ [])));
}

pub history_ran : (e e' : EngineState) (es : List Entry) (c : ℕ) (s : Segment) → IsHistory e es → illegal_of e.core (Run c) ≡ None → e'.image ≡ e.image → fire (machine_semantics e.image) (config_of e) (Run c) ≡ (config_of e', seen.Ran s) → GoesOn e.core e'.core → IsHistory e' (es ++ entry.Ran c s.steps s.end ∷ [])
history_ran e e' es c s h may image did goes =
    history_more e e' es (entry.Ran c s.steps s.end) (seen.Ran s) h image goes.bound (may_step (machine_semantics e.image) (config_of e) (config_of e') (Run c) (seen.Ran s) may did) refl
    (ran_left (machine_semantics e.image) (config_of e) (config_of e') c s may did goes)

pub fed_core : (e e' : EngineState) (k word : ℕ) → step (machine_semantics e.image) (config_of e) (Feed k word) ≡ Some (config_of e', seen.Fed) → e'.core ≡ record e.core { world = after_feed e.core.world k word }
fed_core e e' k word did = sym (ap (λ (p : Config Machine × Seen). p.0.core) (stepped (machine_semantics e.image) (config_of e) (config_of e') (Feed k word) seen.Fed did))

pub lost_core : (e e' : EngineState) (k : ℕ) → step (machine_semantics e.image) (config_of e) (Unplug k) ≡ Some (config_of e', seen.Unplugged) → e'.core ≡ record e.core { world = after_unplug e.core.world k }
lost_core e e' k did = sym (ap (λ (p : Config Machine × Seen). p.0.core) (stepped (machine_semantics e.image) (config_of e) (config_of e') (Unplug k) seen.Unplugged did))

pub fed_one_left : (e e' : EngineState) (k word : ℕ) → e.core.over ≡ false → can_feed e.core.world k ≡ true → step (machine_semantics e.image) (config_of e) (Feed k word) ≡ Some (config_of e', seen.Fed) → entries_left e'.core + 1 ≤ entries_left e.core
fed_one_left e e' k word goes can did =
    let p = plugged_by (slice_get e.core.world.channels k) can in
    subst (λ (c : Core). entries_left c + 1 ≤ entries_left e.core) (sym (fed_core e e' k word did)) (feed_left e.core k word goes p.1 p.2)

pub lost_one_left : (e e' : EngineState) (k : ℕ) → e.core.over ≡ false → is_plugged e.core.world k ≡ true → step (machine_semantics e.image) (config_of e) (Unplug k) ≡ Some (config_of e', seen.Unplugged) → entries_left e'.core + 1 ≤ entries_left e.core
lost_one_left e e' k goes plugged did =
    subst (λ (c : Core). entries_left c + 1 ≤ entries_left e.core) (sym (lost_core e e' k did)) (unplug_left e.core k goes plugged)

pub history_fed : (e e' : EngineState) (es : List Entry) (k word : ℕ) → IsHistory e es → e.core.over ≡ false → can_feed e.core.world k ≡ true → e'.image ≡ e.image → step (machine_semantics e.image) (config_of e) (Feed k word) ≡ Some (config_of e', seen.Fed) → IsHistory e' (es ++ entry.Fed k word ∷ [])
history_fed e e' es k word h goes can image did =
    let core = fed_core e e' k word did in
    let p = plugged_by (slice_get e.core.world.channels k) can in
    history_more e e' es (entry.Fed k word) seen.Fed h image (ap (λ (c : Core). c.world.bound) core) did refl
    (subst (λ (c : Core). entries_left c + 1 ≤ entries_left e.core) (sym core) (feed_left e.core k word goes p.1 p.2))

pub history_lost : (e e' : EngineState) (es : List Entry) (k : ℕ) → IsHistory e es → e.core.over ≡ false → is_plugged e.core.world k ≡ true → e'.image ≡ e.image → step (machine_semantics e.image) (config_of e) (Unplug k) ≡ Some (config_of e', seen.Unplugged) → IsHistory e' (es ++ entry.Unplugged k ∷ [])
history_lost e e' es k h goes plugged image did =
    let core = lost_core e e' k did in
    history_more e e' es (entry.Unplugged k) seen.Unplugged h image (ap (λ (c : Core). c.world.bound) core) did refl
    (subst (λ (c : Core). entries_left c + 1 ≤ entries_left e.core) (sym core) (unplug_left e.core k goes plugged))

-- there is room for one entry more where no segment was cut
pub room_left : (e : EngineState) (es : List Entry) (capacity : ℕ) → IsHistory e es → e.core.over ≡ false → most_entries (bound_of e) ≤ capacity → length es < capacity
room_left e es capacity h goes room =
    let f : length es + (1 + 2 * steps_left e.core + total room_in e.core.world.channels + total receives e.core.phases) ≤ most_entries (bound_of e) =
    subst (λ o. length es + (if o then 0 else 1 + 2 * steps_left e.core + total room_in e.core.world.channels + total receives e.core.phases) ≤ most_entries (bound_of e)) goes h.few
    in omega (arith, f, room)

-- a cut segment ends with the bound, and no other
load_ends : (b : Bool) → is_bound (if b then end.Load else end.Trap Address) ≡ false
load_ends true = refl
load_ends false = refl

store_ends : (b : Bool) → is_bound (if b then end.Store else end.Trap Address) ≡ false
store_ends true = refl
store_ends false = refl

cut_by : (memory : List ℕ) (why : SegmentExit) → is_bound (end_after memory why) ≡ is_cut why
cut_by memory stop.Yield = refl
cut_by memory (stop.Load address line) = load_ends (nat_lt address (length memory))
cut_by memory (stop.Store address word line) = store_ends (nat_lt address (length memory))
cut_by memory (stop.Recv k) = refl
cut_by memory (stop.Send k word) = refl
cut_by memory stop.Halt = refl
cut_by memory (stop.Divide line) = refl
cut_by memory stop.Bound = refl

abbrev end_of : SegmentEnd → Seen → SegmentEnd
end_of e (seen.Ran t) = t.end
end_of e other = e

pub cut_end : {X : Type 0} (rules : Semantics X) (m m' : Config X) (c : ℕ) (s : Segment) → fire rules m (Run c) ≡ (m', seen.Ran s) → is_bound s.end ≡ m'.core.over
cut_end {X} rules m m' c s did =
    sym (ap (λ (p : Config X × Seen). is_bound (end_of s.end p.1)) did) ∙ cut_by _ _ ∙ ap (λ (p : Config X × Seen). p.0.core.over) did
