-- A pump, channel by channel.
use Rattle.std.proofs.Common.{◌≡◌, ℕ, zero, suc, ◌+◌, ◌<◌, ◌≤◌, List, [], ◌∷◌, ◌++◌, length, Option, Some, None, Bool, true, false, refl, sym, ap, ◌∙◌, subst, arith, inl, inr, ◌⊎◌}
use Rattle.std.specs.Prelude.{slice_get, if◌then◌else◌, nat_lt, ◌==◌}
use Rattle.std.specs.Option.{is_some, option_or}
use Rattle.std.proofs.lemmas.Bool.{cases_lt, ltb-false, eqb-false}
use Rattle.micro_isa.specs.declared.limits.TheConstants.{MOST_CHANNELS}
use Rattle.micro_isa.specs.declared.program.Channel.{Channel}
use Rattle.micro_isa.specs.declared.image.Image.{Image}
use Rattle.world.specs.declared.event.Entry.{Entry}
use Rattle.world.specs.declared.event.End.{End}
use Rattle.world.specs.declared.event.End.TheVariants as ending
use Rattle.world.specs.Channels.{ChannelState, takes_feed}
use Rattle.world.specs.WorldState.{can_feed, holds_at}
use Rattle.semantics.specs.Core.{Core, some_runnable, ending_of}
use Rattle.engine_core.specs.EngineState.{EngineState}
use Rattle.ports.specs.declared.told.Told.{Told}
use Rattle.ports.specs.declared.port.Polled.{Polled}
use Rattle.ports.specs.declared.port.Polled.TheVariants as polled
use Rattle.ports.specs.SlotsState.{SlotsState}
use Rattle.run_journal.specs.declared.answers.Pumped.{Pumped}
use Rattle.run_journal.specs.Room.{total}
use Rattle.run_journal.specs.Keeping.{PortsKept, port_at}
use Rattle.run_journal.specs.Turning.{Fits}
use Rattle.run_journal.specs.Pumping.{answer_at, answered, entries_from, Asks, PortOf, fed_in, dropped_in, one_if, words_at, ends_at, asked_in}
use Rattle.run_journal.specs.Histories.{IsHistory, IsIdle, RunState, channels_of, run_ending}
use Rattle.run_journal.specs.Parts.{Went, AsksOne}
use Rattle.run_journal.specs.Turns.{Pumps, PumpedTo, PumpBy, PumpDid, counted, idle_after}
use Rattle.run_journal.proofs.Histories.{feed_plugged}
use Rattle.run_journal.proofs.Going.{went_none, went_on, ports_apart}
use Rattle.run_journal.proofs.Pumping.{asks_none, asks_more, entries_more, pump_keeps, IdleAfter, no_answer, still_same, still_words, still_ends}
use Rattle.run_journal.proofs.TurnKeeping.{idle_none, TurnKept}

pub pumped_none : (e : EngineState) (es : List Entry) (s : SlotsState) → IsHistory e es → Fits (channels_of e) e.core.world s → e.core.over ≡ false → PumpedTo e e es es s s (record { asked = 0; fed = 0; dropped = 0 }) 0
pumped_none e es s h fits goes = record {
  answers = [];
  asks = asks_none (channels_of e) e.core s.told;
  went = went_none e es h;
  asked_count = refl;
  fed_count = refl;
  dropped_count = refl;
  fits = fits;
  goes = goes;
  few = (omega arith, omega arith, omega arith);
}

total_more : (f : Option Polled → ℕ) (rs : List (Option Polled)) (a : Option Polled) → total f (rs ++ a ∷ []) ≡ total f rs + f a
total_more f [] a = omega arith
total_more f (r ∷ rs) a = omega (arith, total_more f rs a)

one_few : (b : Bool) → one_if b ≤ 1
one_few true = omega arith
one_few false = omega arith

words_few : (a : Option Polled) → length (words_at a) ≤ 1
words_few None = omega arith
words_few (Some (polled.Word w)) = omega arith
words_few (Some polled.Empty) = omega arith
words_few (Some polled.Closed) = omega arith
words_few (Some polled.Failed) = omega arith

pub pumped_more : (e e1 e2 : EngineState) (es es1 es2 : List Entry) (s s1 s2 : SlotsState) (p : Pumped) (n : ℕ) (a : Option Polled) → IsHistory e es → PumpedTo e e1 es es1 s s1 p n → AsksOne e1 e2 es1 es2 s1 s2 n a → PumpedTo e e2 es es2 s s2 (counted p a) (n + 1)
pumped_more e e1 e2 es es1 es2 s s1 s2 p n a h so did = record {
  answers = so.answers ++ a ∷ [];
  asks = asks_more (channels_of e) e.core e1.core e2.core s.told s1.told s2.told so.answers a n (ports_apart e es h) so.asks did.asked did.core (subst (λ (m : Image). PortOf m.setting.channels a n s1.told s2.told) so.went.image did.port);
  went = subst (λ own. Went e e2 es es2 own) own (went_on e e1 e2 es es1 es2 (entries_from 0 so.answers) (answered n a) so.went did.went);
  asked_count = omega (arith, so.asked_count, total_more (λ x. one_if (is_some x)) so.answers a);
  fed_count = omega (arith, so.fed_count, total_more (λ x. length (words_at x)) so.answers a);
  dropped_count = omega (arith, so.dropped_count, total_more (λ x. one_if (ends_at x)) so.answers a);
  fits = did.fits;
  goes = ap (λ (c : Core). c.over) did.core ∙ so.goes;
  few = (
    omega (arith, so.few.0, one_few (is_some a)),
    omega (arith, so.few.1, words_few a),
    omega (arith, so.few.2, one_few (ends_at a)),
  );
}
  where
    own : entries_from 0 so.answers ++ answered n a ≡ entries_from 0 (so.answers ++ a ∷ [])
    own = ap (λ k. entries_from 0 so.answers ++ answered k a) (omega (arith, so.asks.as_many)) ∙ sym (entries_more 0 so.answers a)

pub behind_within : (chs : List Channel) (k j : ℕ) → port_at chs k ≡ Some j → k < length chs
behind_within [] k j h = absurd (cc)
behind_within (ch ∷ chs) zero j h = omega arith
behind_within (ch ∷ chs) (suc k) j h = omega (arith, behind_within chs k j h)

none_fed : (e : EngineState) (es : List Entry) (s : SlotsState) (k : ℕ) → IsHistory e es → Fits (channels_of e) e.core.world s → MOST_CHANNELS ≤ k → can_feed e.core.world k ≡ false
none_fed e es s k h fits le = by (can_feed e.core.world k) refl
  where
    by : (b : Bool) → can_feed e.core.world k ≡ b → b ≡ false
    by false q = refl
    by true q =
        let t = fits.there k (feed_plugged e.core.world k q) in
        absurd (let lt = behind_within (channels_of e) k t.0 t.1 in let few = h.formed.setting.few in omega (arith, lt, few, le))

none_asked : (rs : List (Option Polled)) → ((k : ℕ) → is_some (answer_at rs k) ≡ false) → asked_in rs ≡ 0
none_asked [] h = refl
none_asked (r ∷ rs) h = let e : one_if (is_some r) ≡ 0 = ap one_if (h 0) in let m = none_asked rs (λ k. h (suc k)) in omega (arith, e, m)

-- as many were asked as could be fed
asked_as_fed : (rs : List (Option Polled)) (chs : List ChannelState) → ((k : ℕ) → is_some (answer_at rs k) ≡ holds_at takes_feed (slice_get chs k)) → asked_in rs ≡ total (λ ch. one_if (takes_feed ch)) chs
asked_as_fed rs [] h = none_asked rs h
asked_as_fed [] (ch ∷ chs) h = let e : one_if (takes_feed ch) ≡ 0 = ap one_if (sym (h 0)) in let m = asked_as_fed [] chs (λ k. h (suc k)) in omega (arith, e, m)
asked_as_fed (r ∷ rs) (ch ∷ chs) h = let e : one_if (is_some r) ≡ one_if (takes_feed ch) = ap one_if (h 0) in let m = asked_as_fed rs chs (λ k. h (suc k)) in omega (arith, e, m)

pub pumped_all : (e e' : EngineState) (es es' : List Entry) (s s' : SlotsState) (p : Pumped) → IsHistory e es → Fits (channels_of e) e.core.world s → PumpedTo e e' es es' s s' p MOST_CHANNELS → Pumps e e' es es' s s' p
pumped_all e e' es es' s s' p h fits so = record {
  answers = so.answers;
  asked = each;
  asks = so.asks;
  went = so.went;
  asked_count = so.asked_count;
  fed_count = so.fed_count;
  dropped_count = so.dropped_count;
  asked_all = so.asked_count ∙ asked_as_fed so.answers e.core.world.channels each;
}
  where
    each : (k : ℕ) → is_some (answer_at so.answers k) ≡ can_feed e.core.world k
    each k = elim (cases_lt k MOST_CHANNELS) [
      | inl lt ↦ so.asks.asked k lt
      | inr le ↦ (ap is_some (no_answer so.answers k (omega (arith, so.asks.as_many, le))) ∙ sym (none_fed e es s k h fits le))
    ]

-- the idle count after a pump
idle_by : (core : Core) (p : Pumped) (idle : ℕ) (r f d : Bool) → some_runnable core ≡ r → nat_lt 0 p.fed ≡ f → nat_lt 0 p.dropped ≡ d → (idle_after core p idle ≡ 0) ⊎ ((some_runnable core ≡ false) × (p.fed ≡ 0) × (p.dropped ≡ 0) × (idle_after core p idle ≡ idle + 1))
idle_by core p idle true f d er ef ed = inl (rw er refl)
idle_by core p idle false true d er ef ed = inl (rw (er, ef) refl)
idle_by core p idle false false true er ef ed = inl (rw (er, ef, ed) refl)
idle_by core p idle false false false er ef ed = inr (
  er,
  omega (arith, ltb-false 0 p.fed ef),
  omega (arith, ltb-false 0 p.dropped ed),
  rw (er, ef, ed) refl,
)

idle_cases : (core : Core) (p : Pumped) (idle : ℕ) → (idle_after core p idle ≡ 0) ⊎ ((some_runnable core ≡ false) × (p.fed ≡ 0) × (p.dropped ≡ 0) × (idle_after core p idle ≡ idle + 1))
idle_cases core p idle = idle_by core p idle (some_runnable core) (nat_lt 0 p.fed) (nat_lt 0 p.dropped) refl refl refl

same_list : (xs ys : List ChannelState) → ((k : ℕ) → slice_get xs k ≡ slice_get ys k) → xs ≡ ys
same_list [] [] h = refl
same_list [] (y ∷ ys) h = absurd (let e = h 0 in cc)
same_list (x ∷ xs) [] h = absurd (let e = h 0 in cc)
same_list (x ∷ xs) (y ∷ ys) h =
    let e : x ≡ y = (let q = h 0 in cc) in
    ap (λ z. z ∷ xs) e ∙ ap (λ l. y ∷ l) (same_list xs ys (λ k. h (suc k)))

-- where nothing was fed or lost, nothing changed
still_core : (chs : List Channel) (before after : Core) (told told' : List Told) (rs : List (Option Polled)) (n : ℕ) → Asks chs before after told told' rs n → fed_in rs ≡ 0 → dropped_in rs ≡ 0 → after ≡ before
still_core chs before after told told' rs n asks f d =
    asks.core
    ∙ ap (λ l. record before { world = record before.world { channels = l } })
    (same_list after.world.channels before.world.channels (λ k. asks.channels k ∙ still_same (answer_at rs k) (slice_get before.world.channels k) (still_words rs k f) (still_ends rs k d)))

pub pumped_idle : (e e' : EngineState) (es es' : List Entry) (s s' : SlotsState) (p : Pumped) (idle : ℕ) → ending_of e.core ≡ None → idle < 1000 → Pumps e e' es es' s s' p → IsIdle e'.core (idle_after e.core p idle)
pumped_idle e e' es es' s s' p idle goes lt did = elim (idle_cases e.core p idle) [
  | inl z ↦ subst (IsIdle e'.core) (sym z) (idle_none e'.core)
  | inr q ↦ (
      let same = still_core (channels_of e) e.core e'.core s.told s'.told did.answers MOST_CHANNELS did.asks (sym did.fed_count ∙ q.1) (sym did.dropped_count ∙ q.2) in
      record {
        most = omega (arith, q.3, lt);
        none = λ pos. ap some_runnable same ∙ q.0;
        goes = λ pos. ap ending_of same ∙ goes;
      }
      )
]

pub pumped_keeps : (e e' : EngineState) (es es' : List Entry) (s s' : SlotsState) (p : Pumped) (idle : ℕ) (start : List Told) → Pumps e e' es es' s s' p → PortsKept (channels_of e) es e.core idle start s.told → PortsKept (channels_of e') es' e'.core (idle_after e.core p idle) start s'.told
pumped_keeps e e' es es' s s' p idle start did kept =
    subst (λ (m : Image). PortsKept m.setting.channels es' e'.core (idle_after e.core p idle) start s'.told) (sym did.went.image)
    (subst (λ l. PortsKept (channels_of e) l e'.core (idle_after e.core p idle) start s'.told) (sym did.went.entries)
    (pump_keeps (channels_of e) e.core e'.core s.told s'.told did.answers MOST_CHANNELS did.asks es idle (idle_after e.core p idle) did.asked count start kept))
  where
    count : IdleAfter did.answers idle (idle_after e.core p idle)
    count = elim (idle_cases e.core p idle) [
      | inl z ↦ inl z
      | inr q ↦ inr (sym did.fed_count ∙ q.1, sym did.dropped_count ∙ q.2, q.3)
    ]

-- a run without an ending
no_ending : (o : Option End) (b : Bool) → option_or o (if b then Some ending.Idle else None) ≡ None → (o ≡ None) × (b ≡ false)
no_ending None true h = absurd (cc)
no_ending None false h = (refl, refl)
no_ending (Some end) b h = absurd (cc)

pub goes_on_still : (core : Core) (idle : ℕ) → IsIdle core idle → run_ending core idle ≡ None → (ending_of core ≡ None) × (idle < 1000)
goes_on_still core idle h none =
    let n = no_ending (ending_of core) (idle == 1000) none in
    (n.0, (let ne = eqb-false idle 1000 n.1 in let most = h.most in omega (arith, ne, most)))

pub under_ending : (o : Option End) (end : End) (r : RunState) (s : SlotsState) → Some end ≡ o → PumpBy o r r s s (record { asked = 0; fed = 0; dropped = 0 })
under_ending o end r s e = subst (λ x. PumpBy x r r s s (record { asked = 0; fed = 0; dropped = 0 })) e (refl, refl, refl)

pub not_ended : (o : Option End) (r r' : RunState) (s s' : SlotsState) (p : Pumped) → None ≡ o → Pumps r.engine r'.engine r.entries r'.entries s s' p → r'.idle ≡ idle_after r.engine.core p r.idle → PumpBy o r r' s s' p
not_ended o r r' s s' p e did idle = subst (λ x. PumpBy x r r' s s' p) e (did, idle)

-- what a pump keeps
kept_by : (o : Option End) (r r' : RunState) (s s' : SlotsState) (p : Pumped) → run_ending r.engine.core r.idle ≡ o → IsHistory r.engine r.entries → IsIdle r.engine.core r.idle → Fits (channels_of r'.engine) r'.engine.core.world s' → PumpBy o r r' s s' p → TurnKept r r' s s'
kept_by (Some end) r r' s s' p e h i f did = subst (λ x. TurnKept r x s s') (sym did.0) (subst (λ x. TurnKept r r s x) (sym did.1) (record { known = h; idle = i; fits = subst (λ (x : RunState). Fits (channels_of x.engine) x.engine.core.world s) did.0 (subst (Fits (channels_of r'.engine) r'.engine.core.world) did.1 f); image = refl; bound = refl; kept = λ start k. k }))
kept_by None r r' s s' p e h i f did =
    let n = goes_on_still r.engine.core r.idle i e in
    record {
      known = did.0.went.known;
      idle = subst (IsIdle r'.engine.core) (sym did.1) (pumped_idle r.engine r'.engine r.entries r'.entries s s' p r.idle n.0 n.1 did.0);
      fits = f;
      image = did.0.went.image;
      bound = did.0.went.bound;
      kept = λ start k. subst (λ m. PortsKept (channels_of r'.engine) r'.entries r'.engine.core m start s'.told) (sym did.1) (pumped_keeps r.engine r'.engine r.entries r'.entries s s' p r.idle start did.0 k);
    }

pub pump_kept : (r r' : RunState) (s s' : SlotsState) (p : Pumped) → IsHistory r.engine r.entries → IsIdle r.engine.core r.idle → Fits (channels_of r'.engine) r'.engine.core.world s' → PumpDid r r' s s' p → TurnKept r r' s s'
pump_kept r r' s s' p h i f did = kept_by (run_ending r.engine.core r.idle) r r' s s' p refl h i f did
