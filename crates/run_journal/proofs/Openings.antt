-- The opening with its ports.
use Rattle.std.proofs.Common.{◌<◌, ◌≡◌, ◌≢◌, ℕ, zero, suc, ◌+◌, ◌≤◌, List, [], ◌∷◌, ◌++◌, length, map, replicate, Option, Some, None, Bool, true, false, refl, sym, ap, ◌∙◌, subst, arith, inl, inr}
use Rattle.std.specs.Prelude.{slice_get, slice_index_or, if◌then◌else◌, ◌||◌, ◌&&◌, not}
use Rattle.std.specs.Option.{is_some}
use Rattle.std.proofs.lemmas.Bool.{cases_eq, cases_lt, lt-ltb, ne_eqb}
use Rattle.std.proofs.lemmas.Option.{same_Some, slice_get_within}
use Rattle.micro_isa.specs.declared.limits.TheConstants.{MOST_CHANNELS, MOST_PORTS}
use Rattle.micro_isa.specs.declared.program.Channel.{Channel}
use Rattle.micro_isa.specs.declared.program.Channel.TheVariants as channel
use Rattle.micro_isa.specs.declared.image.Image.{Image}
use Rattle.micro_isa.specs.Formed.{port_of}
use Rattle.world.specs.declared.event.Entry.{Entry}
use Rattle.world.specs.declared.event.Entry.TheVariants as entry
use Rattle.world.specs.Opening.{opened_channel}
use Rattle.world.specs.WorldState.{WorldState, holds_at, is_plugged, after_unplug}
use Rattle.semantics.specs.Core.{Core}
use Rattle.semantics.specs.Events.{Config}
use Rattle.semantics.specs.Machine.{Machine, machine_open}
use Rattle.engine_core.specs.EngineState.{EngineState, config_of}
use Rattle.ports.specs.declared.told.Told.{Told}
use Rattle.ports.specs.SlotsState.{SlotsState, has}
use Rattle.run_journal.specs.Keeping.{PortsKept, Kept, used_by, port_at, fed_on, dropped_on, put_on}
use Rattle.run_journal.specs.Turning.{Fits}
use Rattle.run_journal.specs.Histories.{RunState, IsHistory, bound_of, channels_of}
use Rattle.run_journal.specs.Parts.{Went}
use Rattle.run_journal.specs.Attaching.{has_at, is_missing, detaching, detached, Detaches, AttachedTo, IsFresh}
use Rattle.run_journal.proofs.Keeping.{kept_start}
use Rattle.run_journal.proofs.Worlds.{unplugged_other, unplugged_here, fed_more, dropped_more}
use Rattle.world.specs.declared.event.Event.{Event}
use Rattle.world.specs.declared.event.Event.TheVariants.{Run, Feed, Unplug}
use Rattle.world.specs.Channels.{with_word, has_plugged_port}
use Rattle.semantics.specs.Events.{Semantics, fire}
use Rattle.semantics.specs.Entries.{event_of, LeadsTo}
use Rattle.semantics.specs.Machine.{machine_semantics}
use Rattle.run_journal.proofs.Worlds.{complete_holds, changed_holds, plug_wordless}
use Rattle.run_journal.proofs.Turning.{plugged_other}
use Rattle.semantics.proofs.Histories.{stepped}
use Rattle.run_journal.proofs.Going.{went_none, went_on}
use Rattle.run_journal.proofs.PumpLoop.{behind_within}

pub attached_none : (e : EngineState) (es : List Entry) (s : SlotsState) → IsHistory e es → e.core.over ≡ false → AttachedTo e e es es s 0
attached_none e es s h goes = record {
  went = went_none e es h;
  rest = λ k le. refl;
  done = λ k lt. absurd (omega arith);
  outputs = refl;
  goes = goes;
}

pub detaches_one : (e e' : EngineState) (es es' : List Entry) (s : SlotsState) (k : ℕ) → is_missing (channels_of e) e.core.world s k ≡ true → Went e e' es es' (entry.Unplugged k ∷ []) → e'.core ≡ record e.core { world = after_unplug e.core.world k } → Detaches e e' es es' s k
detaches_one e e' es es' s k is went core = record {
  went = subst (λ b. Went e e' es es' (if b then entry.Unplugged k ∷ [] else [])) (sym is) went;
  core = subst (λ b. e'.core ≡ (if b then record e.core { world = after_unplug e.core.world k } else e.core)) (sym is) core;
}

pub detaches_none : (e : EngineState) (es : List Entry) (s : SlotsState) (k : ℕ) → IsHistory e es → is_missing (channels_of e) e.core.world s k ≡ false → Detaches e e es es s k
detaches_none e es s k h is = record {
  went = subst (λ b. Went e e es es (if b then entry.Unplugged k ∷ [] else [])) (sym is) (went_none e es h);
  core = subst (λ b. e.core ≡ (if b then record e.core { world = after_unplug e.core.world k } else e.core)) (sym is) refl;
}

missing_plugged : (p h : Bool) → (p && not h) ≡ true → p ≡ true
missing_plugged true h e = refl
missing_plugged false h e = absurd (cc)

pub missing_is_plugged : (chs : List Channel) (w : WorldState) (s : SlotsState) (k : ℕ) → is_missing chs w s k ≡ true → is_plugged w k ≡ true
missing_is_plugged chs w s k e = missing_plugged (is_plugged w k) (has_at s (port_at chs k)) e

goes_away : (p h : Bool) → (p && not h) ≡ true → false ≡ (p && h)
goes_away true true e = absurd (cc)
goes_away true false e = refl
goes_away false h e = absurd (cc)

stays_there : (p h : Bool) → (p && not h) ≡ false → p ≡ (p && h)
stays_there true true e = refl
stays_there true false e = absurd (cc)
stays_there false h e = refl

-- what unplugging a missing one leaves
plug_here : (b : Bool) (before after : Core) (k : ℕ) (h : Bool) → (is_plugged before.world k && not h) ≡ b → after ≡ (if b then record before { world = after_unplug before.world k } else before) → is_plugged after.world k ≡ (is_plugged before.world k && h)
plug_here true before after k h e same = ap (λ (c : Core). is_plugged c.world k) same ∙ unplugged_here before.world k ∙ goes_away (is_plugged before.world k) h e
plug_here false before after k h e same = ap (λ (c : Core). is_plugged c.world k) same ∙ stays_there (is_plugged before.world k) h e

plug_else : (b : Bool) (before after : Core) (k l : ℕ) → l ≢ k → after ≡ (if b then record before { world = after_unplug before.world k } else before) → is_plugged after.world l ≡ is_plugged before.world l
plug_else true before after k l ne same = ap (λ (c : Core). is_plugged c.world l) same ∙ unplugged_other has_plugged_port before.world k l ne
plug_else false before after k l ne same = ap (λ (c : Core). is_plugged c.world l) same

outputs_else : (b : Bool) (before after : Core) (k : ℕ) → after ≡ (if b then record before { world = after_unplug before.world k } else before) → (after.world.outputs ≡ before.world.outputs) × (after.over ≡ before.over)
outputs_else true before after k same = (ap (λ (c : Core). c.world.outputs) same, ap (λ (c : Core). c.over) same)
outputs_else false before after k same = (ap (λ (c : Core). c.world.outputs) same, ap (λ (c : Core). c.over) same)

pub attached_more : (e e1 e2 : EngineState) (es es1 es2 : List Entry) (s : SlotsState) (n : ℕ) → AttachedTo e e1 es es1 s n → Detaches e1 e2 es1 es2 s n → AttachedTo e e2 es es2 s (n + 1)
attached_more e e1 e2 es es1 es2 s n so did = record {
  went = subst (λ own. Went e e2 es es2 own) own (went_on e e1 e2 es es1 es2 (detached (channels_of e) e.core.world s n) (detaching (channels_of e1) e1.core.world s n) so.went did.went);
  rest = λ k le. plug_else missing e1.core e2.core n k (λ q. omega arith) did.core ∙ so.rest k (omega arith);
  done = λ k lt. elim (cases_eq k n) [
    | inl q ↦ (
        subst (λ i. is_plugged e2.core.world i ≡ (is_plugged e.core.world i && has_at s (port_at (channels_of e) i))) (sym q)
        (plug_here missing e1.core e2.core n (has_at s (port_at (channels_of e1) n)) refl did.core
        ∙ ap (λ p. p && has_at s (port_at (channels_of e1) n)) (so.rest n (omega arith))
        ∙ ap (λ (m : Image). is_plugged e.core.world n && has_at s (port_at m.setting.channels n)) so.went.image)
        )
    | inr ne ↦ (plug_else missing e1.core e2.core n k ne did.core ∙ so.done k (omega arith))
  ];
  outputs = (outputs_else missing e1.core e2.core n did.core).0 ∙ so.outputs;
  goes = (outputs_else missing e1.core e2.core n did.core).1 ∙ so.goes;
}
  where
    missing : Bool
    missing = is_missing (channels_of e1) e1.core.world s n

    next : suc n ≡ n + 1
    next = omega arith

    own : detached (channels_of e) e.core.world s n ++ detaching (channels_of e1) e1.core.world s n ≡ detached (channels_of e) e.core.world s (n + 1)
    own =
        ap (λ (m : Image). detached (channels_of e) e.core.world s n ++ detaching m.setting.channels e1.core.world s n) so.went.image
        ∙ ap (λ p. detached (channels_of e) e.core.world s n ++ (if p && not (has_at s (port_at (channels_of e) n)) then entry.Unplugged n ∷ [] else [])) (so.rest n (omega arith))
        ∙ ap (detached (channels_of e) e.core.world s) next

-- the opening: what has a port is plugged
opened_plug : (ch : Channel) → has_plugged_port (opened_channel ch) ≡ is_some (port_of ch)
opened_plug (channel.Inner capacity) = refl
opened_plug (channel.Input words None) = refl
opened_plug (channel.Input words (Some port)) = refl
opened_plug (channel.Output None) = refl
opened_plug (channel.Output (Some port)) = refl

opened_plugs : (chs : List Channel) (k : ℕ) → holds_at has_plugged_port (slice_get (map opened_channel chs) k) ≡ is_some (port_at chs k)
opened_plugs [] k = refl
opened_plugs (ch ∷ chs) zero = opened_plug ch
opened_plugs (ch ∷ chs) (suc k) = opened_plugs chs k

pub opens_as : (e : EngineState) (es : List Entry) → IsHistory e es → es ≡ [] → machine_open e.image (bound_of e) ≡ config_of e
opens_as e [] h none = h.legal
opens_as e (x ∷ xs) h none = absurd (cc)

pub opens_on : (e : EngineState) (es : List Entry) → IsHistory e es → es ≡ [] → e.core.over ≡ false
opens_on e es h none = sym (ap (λ (m : Config Machine). m.core.over) (opens_as e es h none))

opening_plug : (e : EngineState) (es : List Entry) (k : ℕ) → IsHistory e es → es ≡ [] → is_plugged e.core.world k ≡ is_some (port_at (channels_of e) k)
opening_plug e es k h none = sym (ap (λ (m : Config Machine). is_plugged m.core.world k) (opens_as e es h none)) ∙ opened_plugs (channels_of e) k

no_port : (e : EngineState) (es : List Entry) (k : ℕ) (o : Option ℕ) → port_at (channels_of e) k ≡ o → IsHistory e es → MOST_CHANNELS ≤ k → is_some o ≡ false
no_port e es k None q h le = refl
no_port e es k (Some j) q h le = absurd (let lt = behind_within (channels_of e) k j q in let few = h.formed.setting.few in omega (arith, lt, few, le))

and_false : (p h : Bool) → p ≡ false → p ≡ (p && h)
and_false true h e = absurd (cc)
and_false false h e = refl

all_done : (e e' : EngineState) (es es' : List Entry) (s : SlotsState) (k : ℕ) → IsHistory e es → es ≡ [] → AttachedTo e e' es es' s MOST_CHANNELS → is_plugged e'.core.world k ≡ (is_some (port_at (channels_of e) k) && has_at s (port_at (channels_of e) k))
all_done e e' es es' s k h none at = elim (cases_lt k MOST_CHANNELS) [
  | inl lt ↦ (at.done k lt ∙ ap (λ p. p && has_at s (port_at (channels_of e) k)) (opening_plug e es k h none))
  | inr le ↦ (at.rest k le ∙ opening_plug e es k h none ∙ and_false (is_some (port_at (channels_of e) k)) (has_at s (port_at (channels_of e) k)) (no_port e es k (port_at (channels_of e) k) refl h le))
]

there_by : (s : SlotsState) (o : Option ℕ) → (is_some o && has_at s o) ≡ true → (j : ℕ) × (o ≡ Some j) × (has s j ≡ true)
there_by s None e = absurd (cc)
there_by s (Some j) e = (j, refl, e)

attached_fits : (e e' : EngineState) (es es' : List Entry) (s : SlotsState) → IsHistory e es → es ≡ [] → AttachedTo e e' es es' s MOST_CHANNELS → Fits (channels_of e') e'.core.world s
attached_fits e e' es es' s h none at = subst (λ (m : Image). Fits m.setting.channels e'.core.world s) (sym at.went.image) (record {
  there = λ k p. there_by s (port_at (channels_of e) k) (sym (all_done e e' es es' s k h none at) ∙ p);
})

-- what the entries of the opening tell of a channel whose port is there
detaching_fed : (b : Bool) (k n : ℕ) → fed_on k (if b then entry.Unplugged n ∷ [] else []) ≡ []
detaching_fed true k n = refl
detaching_fed false k n = refl

detached_fed : (chs : List Channel) (w : WorldState) (s : SlotsState) (k n : ℕ) → fed_on k (detached chs w s n) ≡ []
detached_fed chs w s k zero = refl
detached_fed chs w s k (suc n) = fed_more k (detached chs w s n) (detaching chs w s n) ∙ ap (λ ws. ws ++ fed_on k (detaching chs w s n)) (detached_fed chs w s k n) ∙ detaching_fed (is_missing chs w s n) k n

detaching_else : (b : Bool) (k n : ℕ) → k ≢ n → dropped_on k (if b then entry.Unplugged n ∷ [] else []) ≡ false
detaching_else true k n ne = rw (ne_eqb n k (λ e. ne (sym e))) refl
detaching_else false k n ne = refl

not_missing : (p h : Bool) → h ≡ true → (p && not h) ≡ false
not_missing true true e = refl
not_missing true false e = absurd (cc)
not_missing false h e = refl

detaching_drop : (chs : List Channel) (w : WorldState) (s : SlotsState) (k n : ℕ) → has_at s (port_at chs k) ≡ true → dropped_on k (detaching chs w s n) ≡ false
detaching_drop chs w s k n there = elim (cases_eq k n) [
  | inl e ↦ ap (λ b. dropped_on k (if b then entry.Unplugged n ∷ [] else [])) (not_missing (is_plugged w n) (has_at s (port_at chs n)) (ap (λ i. has_at s (port_at chs i)) (sym e) ∙ there))
  | inr ne ↦ detaching_else (is_missing chs w s n) k n ne
]

detached_drop : (chs : List Channel) (w : WorldState) (s : SlotsState) (k n : ℕ) → has_at s (port_at chs k) ≡ true → dropped_on k (detached chs w s n) ≡ false
detached_drop chs w s k zero there = refl
detached_drop chs w s k (suc n) there = dropped_more k (detached chs w s n) (detaching chs w s n) ∙ ap (λ b. b || dropped_on k (detaching chs w s n)) (detached_drop chs w s k n there) ∙ detaching_drop chs w s k n there

never_retired : (n j : ℕ) → slice_index_or (replicate n false) j false ≡ false
never_retired zero j = refl
never_retired (suc n) zero = refl
never_retired (suc n) (suc j) = never_retired n j

has_port : (s : SlotsState) (j : ℕ) (a : Told) → s.retired ≡ replicate MOST_PORTS false → slice_get s.told j ≡ Some a → has s j ≡ true
has_port s j a retired at = rw (lt-ltb j (length s.told) (slice_get_within s.told j a at), ap (λ l. slice_index_or l j false) retired ∙ never_retired MOST_PORTS j) refl

pub attached_fresh : (r r' : RunState) (s : SlotsState) → IsHistory r.engine r.entries → r.entries ≡ [] → AttachedTo r.engine r'.engine r.entries r'.entries s MOST_CHANNELS → r'.idle ≡ 0 → IsFresh r' s
attached_fresh r r' s h none at idle = record {
  fits = attached_fits r.engine r'.engine r.entries r'.entries s h none at;
  idle = idle;
  kept = λ retired. subst (λ (m : Image). PortsKept m.setting.channels r'.entries r'.engine.core 0 s.told s.told) (sym at.went.image) (record {
    as_many = refl;
    named = λ k j a b p sa sb.
        let there : has_at s (port_at (channels_of r.engine) k) ≡ true = ap (has_at s) p ∙ has_port s j a retired sa in
        subst (λ x. Kept a x (used_by r'.entries r'.engine.core 0 k)) (same_Some a b (sym sa ∙ sb))
        (kept_start a (used_by r'.entries r'.engine.core 0 k)
        (ap (fed_on k) own ∙ detached_fed (channels_of r.engine) r.engine.core.world s k MOST_CHANNELS)
        (ap (put_on k) (at.outputs ∙ sym (ap (λ (m : Config Machine). m.core.world.outputs) (opens_as r.engine r.entries h none))))
        (ap (dropped_on k) own ∙ detached_drop (channels_of r.engine) r.engine.core.world s k MOST_CHANNELS there)
        (all_done r.engine r'.engine r.entries r'.entries s k h none at ∙ ap (λ o. is_some o && has_at s o) p ∙ has_port s j a retired sa)
        refl);
    others = λ j no. refl;
  });
}
  where
    own : r'.entries ≡ detached (channels_of r.engine) r.engine.core.world s MOST_CHANNELS
    own = at.went.entries ∙ ap (λ l. l ++ detached (channels_of r.engine) r.engine.core.world s MOST_CHANNELS) none

-- what is plugged was so at the opening
plug_happens : {X : Type 0} (rules : Semantics X) (m : Config X) (e : Event) (k : ℕ) → is_plugged (fire rules m e).0.core.world k ≡ true → is_plugged m.core.world k ≡ true
plug_happens rules m (Run c) k p = sym (complete_holds has_plugged_port plug_wordless m.core.world (slice_get m.core.phases c) k) ∙ p
plug_happens rules m (Feed j word) k p = sym (changed_holds has_plugged_port (with_word word) m.core.world.channels j k (slice_get m.core.world.channels j) refl (λ ch. refl)) ∙ p
plug_happens rules m (Unplug j) k p = (plugged_other m.core.world j k p).1

plug_leads : {X : Type 0} (rules : Semantics X) (m last : Config X) (es : List Entry) (k : ℕ) → LeadsTo rules m es last → is_plugged last.core.world k ≡ true → is_plugged m.core.world k ≡ true
plug_leads rules m last [] k leads p = ap (λ x. is_plugged x.core.world k) leads ∙ p
plug_leads rules m last (e ∷ es) k leads p =
    plug_happens rules m (event_of e) k
    (ap (λ q. is_plugged q.0.core.world k) (stepped rules m leads.0 (event_of e) leads.1 leads.2) ∙ plug_leads rules leads.0 last es k leads.4 p)

plugged_few : (e : EngineState) (es : List Entry) (k : ℕ) → IsHistory e es → is_plugged e.core.world k ≡ true → k < MOST_CHANNELS
plugged_few e es k h p = by (port_at (channels_of e) k) refl
  where
    opened : is_some (port_at (channels_of e) k) ≡ true
    opened = sym (opened_plugs (channels_of e) k) ∙ plug_leads (machine_semantics e.image) (machine_open e.image (bound_of e)) (config_of e) es k h.legal p

    by : (o : Option ℕ) → port_at (channels_of e) k ≡ o → k < MOST_CHANNELS
    by None q = absurd (let f : false ≡ true = sym (ap is_some q) ∙ opened in cc)
    by (Some j) q = let lt = behind_within (channels_of e) k j q in let few = h.formed.setting.few in omega (arith, lt, few)

-- no channel below n is missing its port
pub record NoneMissing (chs : List Channel) (w : WorldState) (s : SlotsState) (n : ℕ) : Type 0 where
  pub at : (k : ℕ) → k < n → is_missing chs w s k ≡ false

pub none_below : (chs : List Channel) (w : WorldState) (s : SlotsState) → NoneMissing chs w s 0
none_below chs w s = record { at = λ k lt. absurd (omega arith) }

pub missing_none : (chs : List Channel) (w : WorldState) (s : SlotsState) (n : ℕ) → NoneMissing chs w s n → is_missing chs w s n ≡ false → NoneMissing chs w s (n + 1)
missing_none chs w s n h e = record {
  at = λ k lt. elim (cases_eq k n) [ inl q ↦ (ap (is_missing chs w s) q ∙ e) | inr ne ↦ h.at k (omega arith) ];
}

there_at : (s : SlotsState) (o : Option ℕ) → has_at s o ≡ true → (j : ℕ) × (o ≡ Some j) × (has s j ≡ true)
there_at s None e = absurd (cc)
there_at s (Some j) e = (j, refl, e)

served : (p h : Bool) → (p && not h) ≡ false → p ≡ true → h ≡ true
served true true e q = refl
served true false e q = absurd (cc)
served false h e q = absurd (cc)

pub all_there : (e : EngineState) (es : List Entry) (s : SlotsState) → IsHistory e es → NoneMissing (channels_of e) e.core.world s MOST_CHANNELS → Fits (channels_of e) e.core.world s
all_there e es s h none = record {
  there = λ k p. there_at s (port_at (channels_of e) k) (served (is_plugged e.core.world k) (has_at s (port_at (channels_of e) k)) (none.at k (plugged_few e es k h p)) p);
}

unserved : (p h : Bool) → (p && not h) ≡ true → h ≡ false
unserved true true e = absurd (cc)
unserved true false e = refl
unserved false h e = absurd (cc)

pub one_missing : (chs : List Channel) (w : WorldState) (s : SlotsState) (k : ℕ) → is_missing chs w s k ≡ true → Fits chs w s → ⊥
one_missing chs w s k e fits =
    let t = fits.there k (missing_is_plugged chs w s k e) in
    let f : has_at s (port_at chs k) ≡ false = unserved (is_plugged w k) (has_at s (port_at chs k)) e in
    absurd (let g : true ≡ false = sym (ap (has_at s) t.1 ∙ t.2) ∙ f in cc)
