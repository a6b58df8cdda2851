-- Written entries that are followed: what happened is told, and what strays is not legal.
use Rattle.std.proofs.Common.{◌≡◌, ℕ, ◌+◌, ◌<◌, List, [], ◌∷◌, ◌++◌, length, take, drop, get_or, add-one, Some, None, true, false, refl, sym, ap, ◌∙◌, subst}
use Rattle.std.proofs.lemmas.Option.{same_Some}
use Rattle.std.proofs.lemmas.List.{take-append-drop}
use Rattle.std.proofs.Math.Seq.{drop-cons}
use Rattle.micro_isa.specs.declared.image.Image.{Image}
use Rattle.world.specs.declared.event.Event.TheVariants.{Run, Feed, Unplug}
use Rattle.world.specs.declared.event.Entry.{Entry}
use Rattle.world.specs.declared.event.Entry.TheVariants as entry
use Rattle.world.specs.declared.event.Seen.{Seen}
use Rattle.world.specs.declared.event.Seen.TheVariants as seen
use Rattle.world.specs.declared.event.Segment.{Segment}
use Rattle.world.specs.declared.event.SegmentEnd.{SegmentEnd}
use Rattle.world.specs.WorldState.{can_feed, is_plugged}
use Rattle.semantics.specs.Core.{Core, illegal_of}
use Rattle.semantics.specs.Events.{Semantics, Config, fire, step, unless_illegal}
use Rattle.semantics.specs.Entries.{event_of, entry_seen, LeadsTo}
use Rattle.semantics.specs.Machine.{Machine, machine_semantics, machine_open}
use Rattle.semantics.proofs.Histories.{legal_step}
use Rattle.semantics.proofs.Ports.{legal_feed, legal_unplug}
use Rattle.engine_core.specs.EngineState.{EngineState, config_of}
use Rattle.run_journal.specs.declared.replaying.ReplayFault.{ReplayFault}
use Rattle.run_journal.specs.declared.replaying.ReplayFault.TheVariants as fault
use Rattle.run_journal.specs.Histories.{RunState, IsHistory, bound_of}
use Rattle.run_journal.specs.Parts.{Went}
use Rattle.run_journal.specs.Replays.{Happened, Followed, StraysAfter, IsIllegalAt, DiffersAt, StraysBy, IsRefused, Replays}

-- each kind of event
pub happened_ran : (e e' : EngineState) (es es' : List Entry) (c steps : ℕ) (end : SegmentEnd) (s : Segment) → illegal_of e.core (Run c) ≡ None → fire (machine_semantics e.image) (config_of e) (Run c) ≡ (config_of e', seen.Ran s) → Went e e' es es' (entry.Ran c s.steps s.end ∷ []) → Happened e e' es es' (entry.Ran c steps end) (entry.Ran c s.steps s.end)
happened_ran e e' es es' c steps end s may did went = record {
  seen = seen.Ran s;
  did = legal_step (machine_semantics e.image) (config_of e) (Run c) may ∙ ap Some did;
  told = refl;
  went = went;
}

-- what leads by one entry is its step
stepped_one : (e e' : EngineState) (es es' : List Entry) (x : Entry) (told : (s : Seen) → entry_seen x s ≡ x) → Went e e' es es' (x ∷ []) → Happened e e' es es' x x
stepped_one e e' es es' x told went = record {
  seen = went.leads.1;
  did = went.leads.2 ∙ ap (λ m. Some (m, went.leads.1)) went.leads.4;
  told = sym (told went.leads.1);
  went = went;
}

pub happened_fed : (e e' : EngineState) (es es' : List Entry) (k word : ℕ) → Went e e' es es' (entry.Fed k word ∷ []) → Happened e e' es es' (entry.Fed k word) (entry.Fed k word)
happened_fed e e' es es' k word went = stepped_one e e' es es' (entry.Fed k word) (λ s. refl) went

pub happened_lost : (e e' : EngineState) (es es' : List Entry) (k : ℕ) → Went e e' es es' (entry.Unplugged k ∷ []) → Happened e e' es es' (entry.Unplugged k) (entry.Unplugged k)
happened_lost e e' es es' k went = stepped_one e e' es es' (entry.Unplugged k) (λ s. refl) went

pub may_be_fed : (core : Core) (k word : ℕ) → illegal_of core (Feed k word) ≡ None → (core.over ≡ false) × (can_feed core.world k ≡ true)
may_be_fed core k word may = legal_feed core k word may

pub may_be_lost : (core : Core) (k : ℕ) → illegal_of core (Unplug k) ≡ None → (core.over ≡ false) × (is_plugged core.world k ≡ true)
may_be_lost core k may = legal_unplug core k may

-- one entry more was followed
pub followed_none : (r : RunState) (m : Image) (bound : ℕ) → r.engine.image ≡ m → bound_of r.engine ≡ bound → r.entries ≡ [] → r.idle ≡ 0 → Replays r m bound []
followed_none r m bound image same none idle = record { same_image = image; same_bound = same; same_entries = none; no_pump = idle }

pub followed_more : (r r' : RunState) (m : Image) (bound : ℕ) (es : List Entry) (x : Entry) → Replays r m bound es → Followed (Some x) r r' x → Replays r' m bound (es ++ x ∷ [])
followed_more r r' m bound es x sofar did = record {
  same_image = did.0.went.image ∙ sofar.same_image;
  same_bound = did.0.went.bound ∙ sofar.same_bound;
  same_entries = did.0.went.entries ∙ ap (λ l. l ++ x ∷ []) sofar.same_entries;
  no_pump = did.1;
}

pub known_legal : (r : RunState) (m : Image) (bound : ℕ) (es : List Entry) → IsHistory r.engine r.entries → Replays r m bound es → LeadsTo (machine_semantics m) (machine_open m bound) es (config_of r.engine)
known_legal r m bound es known sofar =
    subst (λ m. LeadsTo (machine_semantics m) (machine_open m bound) es (config_of r.engine)) sofar.same_image
    (subst (λ b. LeadsTo (machine_semantics r.engine.image) (machine_open r.engine.image b) es (config_of r.engine)) sofar.same_bound
    (subst (λ l. LeadsTo (machine_semantics r.engine.image) (machine_open r.engine.image (bound_of r.engine)) l (config_of r.engine)) sofar.same_entries known.legal))

-- the first entry that strays
pub strays_here : (why : ReplayFault) (r : RunState) (m : Image) (bound : ℕ) (before rest entries : List Entry) (written : Entry) → IsHistory r.engine r.entries → Replays r m bound before → entries ≡ before ++ written ∷ rest → StraysAfter why r written → StraysBy why m bound entries
strays_here (fault.Illegal at w) r m bound before rest entries written known sofar parts s =
    let made : IsIllegalAt m bound entries at written = record {
      before = before;
      rest = rest;
      last = config_of r.engine;
      parts = parts;
      place = s.0 ∙ ap (λ l. length l + 1) sofar.same_entries;
      legal = known_legal r m bound before known sofar;
      cause = s.2.cause;
      why = s.2.why;
    } in
    subst (IsIllegalAt m bound entries at) (sym s.1) made
strays_here (fault.Differs at w found) r m bound before rest entries written known sofar parts s =
    let d = s.2 in
    let made : DiffersAt m bound entries at written found = record {
      before = before;
      rest = rest;
      last = config_of r.engine;
      next = d.next;
      seen = d.seen;
      parts = parts;
      place = s.0 ∙ ap (λ l. length l + 1) sofar.same_entries;
      legal = known_legal r m bound before known sofar;
      did = subst (λ m. step (machine_semantics m) (config_of r.engine) (event_of written) ≡ Some (d.next, d.seen)) sofar.same_image d.did;
      told = d.told;
      other = d.other;
    } in
    subst (λ w. DiffersAt m bound entries at w found) (sym s.1) made
strays_here fault.NoMemory r m bound before rest entries written known sofar parts s = absurd s

-- a legal list of entries leads through each of its parts, and to one configuration
record Through {X : Type 0} (rules : Semantics X) (m : Config X) (xs ys : List Entry) (last : Config X) : Type 0 where
  middle : Config X
  first : LeadsTo rules m xs middle
  second : LeadsTo rules middle ys last

leads_split : {X : Type 0} (rules : Semantics X) (m last : Config X) (xs ys : List Entry) → LeadsTo rules m (xs ++ ys) last → Through rules m xs ys last
leads_split rules m last [] ys leads = record { middle = m; first = refl; second = leads }
leads_split rules m last (x ∷ xs) ys leads =
    let rest = leads_split rules leads.0 last xs ys leads.4 in
    record { middle = rest.middle; first = (leads.0, leads.1, leads.2, leads.3, rest.first); second = rest.second }

leads_once : {X : Type 0} (rules : Semantics X) (m y z : Config X) (es : List Entry) → LeadsTo rules m es y → LeadsTo rules m es z → y ≡ z
leads_once rules m y z [] a b = sym a ∙ b
leads_once {X} rules m y z (e ∷ es) a b =
    let same : (a.0, a.1) ≡ (b.0, b.1) = same_Some _ _ (sym a.2 ∙ b.2) in
    leads_once rules b.0 y z es (subst (λ (n : Config X). LeadsTo rules n es y) (ap (λ (p : Config X × Seen). p.0) same) a.4) b.4

-- the entry behind a legal part
record Next (m : Image) (last : Config Machine) (written : Entry) : Type 0 where
  after : Config Machine
  seen : Seen
  did : step (machine_semantics m) last (event_of written) ≡ Some (after, seen)
  told : entry_seen written seen ≡ written

next_of : (m : Image) (bound : ℕ) (before rest entries : List Entry) (written : Entry) (last z : Config Machine) → entries ≡ before ++ written ∷ rest → LeadsTo (machine_semantics m) (machine_open m bound) before last → LeadsTo (machine_semantics m) (machine_open m bound) entries z → Next m last written
next_of m bound before rest entries written last z parts legal all =
    let t = leads_split (machine_semantics m) (machine_open m bound) z before (written ∷ rest) (subst (λ l. LeadsTo (machine_semantics m) (machine_open m bound) l z) parts all) in
    let same = leads_once (machine_semantics m) (machine_open m bound) t.middle last before t.first legal in
    record {
      after = t.second.0;
      seen = t.second.1;
      did = subst (λ (x : Config Machine). step (machine_semantics m) x (event_of written) ≡ Some (t.second.0, t.second.1)) same t.second.2;
      told = t.second.3;
    }

-- what strays is not legal
pub stray_refused : (why : ReplayFault) (m : Image) (bound : ℕ) (entries : List Entry) → StraysBy why m bound entries → IsRefused why m bound entries
stray_refused (fault.Illegal at written) m bound entries s = λ z all.
    let n = next_of m bound s.before s.rest entries written s.last z s.parts s.legal all in
    let none : step (machine_semantics m) s.last (event_of written) ≡ None = ap (λ o. unless_illegal o (fire (machine_semantics m) s.last (event_of written))) s.why in
    absurd (let clash : Some (n.after, n.seen) ≡ None = sym n.did ∙ none in cc)
stray_refused (fault.Differs at written found) m bound entries s = λ z all.
    let n = next_of m bound s.before s.rest entries written s.last z s.parts s.legal all in
    let same : (s.next, s.seen) ≡ (n.after, n.seen) = same_Some _ _ (sym s.did ∙ n.did) in
    s.other (s.told ∙ ap (λ (p : Config Machine × Seen). entry_seen written p.1) same ∙ n.told)
stray_refused fault.NoMemory m bound entries s = tt

pub parted_at : (xs : List Entry) (i : ℕ) (d : Entry) → i < length xs → xs ≡ take i xs ++ get_or xs i d ∷ drop (i + 1) xs
parted_at xs i d lt = sym (take-append-drop i xs) ∙ ap (λ l. take i xs ++ l) (rw (add-one i) (drop-cons xs i d lt))
