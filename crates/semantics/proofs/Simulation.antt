-- Two semantics whose states stay related from event to event: their runs are related after every list of events, and so they agree.
use Rattle.std.proofs.Common.{◌≡◌, ℕ, List, [], ◌∷◌, Option, Some, None, refl, sym, subst}
use Rattle.world.specs.declared.event.Event.{Event}
use Rattle.world.specs.declared.event.Event.TheVariants.{Run, Feed, Unplug}
use Rattle.world.specs.declared.event.Seen.{Seen}
use Rattle.world.specs.declared.event.Seen.TheVariants as seen
use Rattle.world.specs.declared.event.Illegal.{Illegal}
use Rattle.world.specs.WorldState.{after_feed, after_unplug}
use Rattle.semantics.specs.Core.{Core, completion, completed, finished, end_after, illegal_of, shown_core, ending_of}
use Rattle.semantics.specs.Events.{Semantics, Config, Stretch, given, fire, unless_illegal, after_first, run_on, run}
use Rattle.semantics.specs.Agreement.{Agree}

-- a stretch of both: as many steps, the same stop, and states that are related again once the world did what the
-- stretch ended with
pub record Keeps {X Y : Type 0} (R : Core → X → Y → Type 0) (core : Core) (c : ℕ) (gx : Stretch X) (gy : Stretch Y) : Type 0 where
  pub steps : gx.steps ≡ gy.steps
  pub why : gx.why ≡ gy.why
  pub related : R (finished core c gy.steps gy.why) gx.state gy.state

-- a relation that each event keeps: between the states of two semantics, under the core that they share
pub record Simulates {X Y : Type 0} (a : Semantics X) (b : Semantics Y) (R : Core → X → Y → Type 0) : Type 0 where
  pub segment : (core : Core) (x : X) (y : Y) (c : ℕ) → illegal_of core (Run c) ≡ None → R core x y →
      Keeps R (completed core c) c (a x c (given core c)) (b y c (given core c))
  pub fed : (core : Core) (x : X) (y : Y) (k word : ℕ) → illegal_of core (Feed k word) ≡ None → R core x y → R (record core { world = after_feed core.world k word }) x y
  pub unplugged : (core : Core) (x : X) (y : Y) (k : ℕ) → illegal_of core (Unplug k) ≡ None → R core x y → R (record core { world = after_unplug core.world k }) x y

-- two configurations with what was seen: the same core, the same seen, and related states
pub record Beside {X Y A : Type 0} (R : Core → X → Y → Type 0) (p : Config X × A) (q : Config Y × A) : Type 0 where
  pub core : (p.0).core ≡ (q.0).core
  pub seen : p.1 ≡ q.1
  pub related : R (q.0).core (p.0).state (q.0).state

-- both runs are undefined, or both are defined and stand beside each other
abbrev pub BothBeside : {X Y A : Type 0} → (Core → X → Y → Type 0) → Option (Config X × A) → Option (Config Y × A) → Type 0
BothBeside R None None = Unit {0}
BothBeside R (Some p) (Some q) = Beside R p q
BothBeside R _ _ = ⊥

beside : {X Y : Type 0} (a : Semantics X) (b : Semantics Y) (R : Core → X → Y → Type 0) → Simulates a b R → (core : Core) (x : X) (y : Y) (e : Event) → illegal_of core e ≡ None → R core x y → Beside R (fire a (record { core = core; state = x }) e) (fire b (record { core = core; state = y }) e)
beside a b R sim core x y (Run c) legal h =
    let done = completed core c in
    let k = sim.segment core x y c legal h in
    record {
      core = λ i. finished done c (k.steps i) (k.why i);
      seen = λ i. seen.Ran (record { steps = k.steps i; end = end_after done.world.memory (k.why i); sent = (completion core c).sent });
      related = k.related;
    }
beside a b R sim core x y (Feed k word) legal h = record { core = refl; seen = refl; related = sim.fed core x y k word legal h }
beside a b R sim core x y (Unplug k) legal h = record { core = refl; seen = refl; related = sim.unplugged core x y k legal h }

first_beside : {X Y : Type 0} (R : Core → X → Y → Type 0) (s t : Seen) (o : Option (Config X × List Seen)) (p : Option (Config Y × List Seen)) → s ≡ t → BothBeside R o p → BothBeside R (after_first s o) (after_first t p)
first_beside R s t None None same h = tt
first_beside R s t None (Some q) same h = absurd h
first_beside R s t (Some p) None same h = absurd h
first_beside R s t (Some p) (Some q) same h =
    record { core = h.core; seen = λ i. same i ∷ h.seen i; related = h.related }

-- one event, and then whatever the rest of the list does
beside_on : {X Y : Type 0} (a : Semantics X) (b : Semantics Y) (R : Core → X → Y → Type 0) → Simulates a b R → (e : Event) (es : List Event) → ((core : Core) (x : X) (y : Y) → R core x y → BothBeside R (run a (record { core = core; state = x }) es) (run b (record { core = core; state = y }) es)) → (core : Core) (x : X) (y : Y) → R core x y → (o : Option Illegal) → illegal_of core e ≡ o → BothBeside R (run_on (λ next. run a next es) (unless_illegal o (fire a (record { core = core; state = x }) e))) (run_on (λ next. run b next es) (unless_illegal o (fire b (record { core = core; state = y }) e)))
beside_on a b R sim e es rest core x y h (Some why) is = tt
beside_on a b R sim e es rest core x y h None is =
    let p = fire a (record { core = core; state = x }) e in
    let q = fire b (record { core = core; state = y }) e in
    let k : Beside R p q = beside a b R sim core x y e is h in
    first_beside R p.1 q.1 (run a p.0 es) (run b q.0 es) k.seen
    (subst (λ n. BothBeside R (run a (record { core = n; state = (p.0).state }) es) (run b q.0 es)) (sym k.core) (rest (q.0).core (p.0).state (q.0).state k.related))

beside_from : {X Y : Type 0} (a : Semantics X) (b : Semantics Y) (R : Core → X → Y → Type 0) → Simulates a b R → (es : List Event) (core : Core) (x : X) (y : Y) → R core x y → BothBeside R (run a (record { core = core; state = x }) es) (run b (record { core = core; state = y }) es)
beside_from a b R sim [] core x y h = record { core = refl; seen = refl; related = h }
beside_from a b R sim (e ∷ es) core x y h =
    beside_on a b R sim e es (beside_from a b R sim es) core x y h (illegal_of core e) refl

-- from equal cores and related states, both runs are related after every list of events
pub related_after : {X Y : Type 0} (a : Semantics X) (b : Semantics Y) (R : Core → X → Y → Type 0) → Simulates a b R → (m : Config X) (n : Config Y) → m.core ≡ n.core → R n.core m.state n.state → (es : List Event) → BothBeside R (run a m es) (run b n es)
related_after a b R sim m n e h es =
    subst (λ k. BothBeside R (run a (record { core = k; state = m.state }) es) (run b n es)) (sym e) (beside_from a b R sim es n.core m.state n.state h)

-- runs that stand beside each other show the same
pub beside_agree : {X Y : Type 0} (R : Core → X → Y → Type 0) (o : Option (Config X × List Seen)) (p : Option (Config Y × List Seen)) → BothBeside R o p → Agree o p
beside_agree R None None h = refl
beside_agree R None (Some q) h = absurd h
beside_agree R (Some p) None h = absurd h
beside_agree R (Some p) (Some q) h =
    λ i. Some (record { view = shown_core (h.core i); ending = ending_of (h.core i); seen = h.seen i })

pub agree : {X Y : Type 0} (a : Semantics X) (b : Semantics Y) (R : Core → X → Y → Type 0) → Simulates a b R → (m : Config X) (n : Config Y) → m.core ≡ n.core → R n.core m.state n.state → (es : List Event) → Agree (run a m es) (run b n es)
agree a b R sim m n e h es = beside_agree R (run a m es) (run b n es) (related_after a b R sim m n e h es)
