-- Unplugging one port after another at the opening of a run.
use Rattle.std.proofs.Common.{◌≡◌, ◌≢◌, ℕ, zero, suc, ◌+◌, ◌-◌, ◌≤◌, List, [], ◌∷◌, ◌++◌, length, Bool, true, false, Option, Some, None, refl, sym, ap, ◌∙◌, subst, arith, inl, inr}
use Rattle.std.specs.Prelude.{slice_get, ◌||◌, ◌&&◌, if◌then◌else◌}
use Rattle.std.specs.List.{list_any, flat_map}
use Rattle.std.proofs.lemmas.Bool.{cases_eq, cases_lt}
use Rattle.std.proofs.lemmas.List.{append-nil}
use Rattle.micro_isa.specs.declared.limits.TheConstants.{MOST_CHANNELS}
use Rattle.world.specs.declared.event.Event.TheVariants.{Unplug}
use Rattle.world.specs.declared.event.Seen.TheVariants as seen
use Rattle.world.specs.declared.event.Entry.{Entry}
use Rattle.world.specs.declared.event.Entry.TheVariants.{Unplugged}
use Rattle.world.specs.declared.event.End.{End}
use Rattle.world.specs.Channels.{ChannelState, without_port, is_incoming, has_plugged_port}
use Rattle.world.specs.WorldState.{WorldState, holds_at, is_plugged, changed_at, after_unplug, is_open_input, has_open_input}
use Rattle.semantics.specs.Core.{Core}
use Rattle.semantics.specs.Events.{Semantics, Config, step}
use Rattle.semantics.specs.Entries.{LeadsTo}
use Rattle.semantics.specs.Moves.{entries_of, first_round}
use Rattle.semantics.specs.Openings.{unplugs, unplugs_below}
use Rattle.semantics.proofs.Histories.{stepped, leads_more, leads_append, leads_run}
use Rattle.semantics.proofs.Moves.{rounds_lead}
use Rattle.round_order.specs.Openings.{IsOpening, IsUnplugged}
use Rattle.round_order.specs.Journals.{UnpluggedBy, UnpluggedAt, IsOpened, IsJournalOn}
use Rattle.round_order.specs.RoundRuns.{IsRoundRun}

-- the channels behind the first one
under : (ch : ChannelState) (chs : List ChannelState) (k : ℕ) (o : Option ChannelState) → changed_at without_port (ch ∷ chs) (suc k) o ≡ ch ∷ changed_at without_port chs k o
under ch chs k None = refl
under ch chs k (Some x) = refl

abbrev unplugged_in : List ChannelState → ℕ → List ChannelState
unplugged_in chs k = changed_at without_port chs k (slice_get chs k)

other_stays : (test : ChannelState → Bool) (chs : List ChannelState) (k j : ℕ) → j ≢ k → holds_at test (slice_get (unplugged_in chs k) j) ≡ holds_at test (slice_get chs j)
other_stays test [] k j ne = refl
other_stays test (ch ∷ chs) zero zero ne = absurd (ne refl)
other_stays test (ch ∷ chs) zero (suc j) ne = refl
other_stays test (ch ∷ chs) (suc k) zero ne = ap (λ l. holds_at test (slice_get l 0)) (under ch chs k (slice_get chs k))
other_stays test (ch ∷ chs) (suc k) (suc j) ne =
    ap (λ l. holds_at test (slice_get l (suc j))) (under ch chs k (slice_get chs k)) ∙ other_stays test chs k j (λ e. ne (ap suc e))

plug_goes : (chs : List ChannelState) (k : ℕ) → holds_at has_plugged_port (slice_get (unplugged_in chs k) k) ≡ false
plug_goes [] k = refl
plug_goes (ch ∷ chs) zero = refl
plug_goes (ch ∷ chs) (suc k) = ap (λ l. holds_at has_plugged_port (slice_get l (suc k))) (under ch chs k (slice_get chs k)) ∙ plug_goes chs k

length_stays : (chs : List ChannelState) (k : ℕ) → length (unplugged_in chs k) ≡ length chs
length_stays [] k = refl
length_stays (ch ∷ chs) zero = refl
length_stays (ch ∷ chs) (suc k) = ap length (under ch chs k (slice_get chs k)) ∙ ap suc (length_stays chs k)

-- the opening itself
pub at_start : (core : Core) → IsOpening core → IsUnplugged core.world 0 core
at_start core opening = record {
  goes = opening.goes;
  few = opening.few;
  closed = λ j lt. absurd (omega (arith, lt));
  rest = λ j le. refl;
}

-- one port more is unplugged
one_more : (w : WorldState) (k : ℕ) (now after : Core) → IsUnplugged w k now → after ≡ record now { world = after_unplug now.world k } → IsUnplugged w (suc k) after
one_more w k now after so is = subst (IsUnplugged w (suc k)) (sym is) (record {
  goes = so.goes;
  few = subst (λ n. n ≤ MOST_CHANNELS) (sym (length_stays now.world.channels k)) so.few;
  closed = λ j lt. elim (cases_eq j k) [
    | inl e ↦ ap (is_plugged (after_unplug now.world k)) e ∙ plug_goes now.world.channels k
    | inr ne ↦ other_stays has_plugged_port now.world.channels k j ne ∙ so.closed j (omega (arith, lt, ne))
  ];
  rest = λ j le. other_stays has_plugged_port now.world.channels k j (λ e. omega (arith, le, e)) ∙ so.rest j (omega (arith, le));
})

-- nothing was plugged there
none_there : (w : WorldState) (k : ℕ) (now : Core) → IsUnplugged w k now → is_plugged now.world k ≡ false → IsUnplugged w (suc k) now
none_there w k now so free = record {
  goes = so.goes;
  few = so.few;
  closed = λ j lt. elim (cases_eq j k) [
    | inl e ↦ ap (is_plugged now.world) e ∙ free
    | inr ne ↦ so.closed j (omega (arith, lt, ne))
  ];
  rest = λ j le. so.rest j (omega (arith, le));
}

-- no word comes from outside where no port is plugged
no_plug : (chs : List ChannelState) → ((j : ℕ) → holds_at has_plugged_port (slice_get chs j) ≡ false) → list_any is_open_input chs ≡ false
no_plug [] h = refl
no_plug (ch ∷ chs) h = ap (λ b. b || list_any is_open_input chs) (none (is_incoming ch.kind) (has_plugged_port ch) (h 0)) ∙ no_plug chs (λ j. h (suc j))
  where
    none : (a b : Bool) → b ≡ false → (a && b) ≡ false
    none true b e = e
    none false b e = refl

past_all : (chs : List ChannelState) (n j : ℕ) → length chs ≤ n → n ≤ j → holds_at has_plugged_port (slice_get chs j) ≡ false
past_all [] n j few le = refl
past_all (ch ∷ chs) n zero few le = absurd (omega (arith, few, le))
past_all (ch ∷ chs) n (suc j) few le = past_all chs j j (omega (arith, few, le)) (omega arith)

-- there is nothing to unplug behind the last channel
none_behind : (w : WorldState) (k : ℕ) → unplugs_below (is_plugged w) (length w.channels + k) ≡ unplugs w
none_behind w zero = let e : length w.channels + zero ≡ length w.channels = omega arith in ap (unplugs_below (is_plugged w)) e
none_behind w (suc k) =
    let e : length w.channels + suc k ≡ suc (length w.channels + k) = omega arith in
    ap (unplugs_below (is_plugged w)) e
    ∙ ap (λ b. unplugs_below (is_plugged w) (length w.channels + k) ++ (if b then Unplugged (length w.channels + k) ∷ [] else [])) (past_all w.channels (length w.channels) (length w.channels + k) (omega arith) (omega arith))
    ∙ append-nil (unplugs_below (is_plugged w) (length w.channels + k))
    ∙ none_behind w k

all_unplugs : (w : WorldState) (n : ℕ) → length w.channels ≤ n → unplugs_below (is_plugged w) n ≡ unplugs w
all_unplugs w n le =
    let e : n ≡ length w.channels + (n - length w.channels) = omega (arith, le) in
    ap (unplugs_below (is_plugged w)) e ∙ none_behind w (n - length w.channels)

-- the opening's unplugging and the turns behind it are one run
pub whole_run : {X : Type 0} (rules : Semantics X) (before middle after : Config X) (opening entries : List Entry) (end : End) → IsOpening before.core → IsOpened rules before MOST_CHANNELS middle opening → IsJournalOn rules middle after opening entries end → IsRoundRun rules before after entries end
whole_run rules before middle after opening entries end begins opened on =
    let gone = on.gone in
    let first = opened.told ∙ all_unplugs before.core.world MOST_CHANNELS begins.few in
    let turns = rounds_lead rules middle after first_round (record { last = on.last; idle = 0 }) gone.moves gone.order in
    let legal = subst (λ l. LeadsTo rules before l after) (sym gone.behind) (leads_append rules before middle after opening (flat_map entries_of gone.moves) opened.legal turns) in
    let ran = leads_run rules before after entries legal in
    record {
      legal = legal;
      seen = ran.0;
      ran = ran.1;
      moves = gone.moves;
      begins = gone.behind ∙ ap (λ l. l ++ flat_map entries_of gone.moves) first;
      opened = middle;
      opening = subst (λ l. LeadsTo rules before l middle) first opened.legal;
      round = record { last = on.last; idle = 0 };
      order = gone.order;
      turns = gone.turns;
      ended = on.ended;
    }

-- where each port was unplugged, no word comes from outside
pub all_closed : (w : WorldState) (now : Core) → IsUnplugged w MOST_CHANNELS now → has_open_input now.world ≡ false
all_closed w now so = no_plug now.world.channels (λ j. elim (cases_lt j MOST_CHANNELS) [
  | inl lt ↦ so.closed j lt
  | inr le ↦ past_all now.world.channels MOST_CHANNELS j so.few le
])

pub was_unplugged : {X : Type 0} (rules : Semantics X) (before after : Config X) (k : ℕ) (es es' : List Entry) → is_plugged before.core.world k ≡ true → step rules before (Unplug k) ≡ Some (after, seen.Unplugged) → es' ≡ es ++ Unplugged k ∷ [] → UnpluggedAt rules before after k es es'
was_unplugged rules before after k es es' plugged happened told =
    subst (λ b. UnpluggedBy b rules before after k es es') (sym plugged) (happened, told)

pub was_not_plugged : {X : Type 0} (rules : Semantics X) (before : Config X) (k : ℕ) (es : List Entry) → is_plugged before.core.world k ≡ false → UnpluggedAt rules before before k es es
was_not_plugged rules before k es free = subst (λ b. UnpluggedBy b rules before before k es es) (sym free) (refl, refl)

-- the opening, before the first channel was looked at
pub opened_at_start : {X : Type 0} (rules : Semantics X) (before : Config X) → IsOpening before.core → IsOpened rules before 0 before []
opened_at_start rules before opening = record { unplugged = at_start before.core opening; legal = refl; told = refl }

one_up : (k : ℕ) → suc k ≡ k + 1
one_up k = omega arith

-- the entries of the channels below the next one
told_more : (w : WorldState) (k : ℕ) (b : Bool) (es : List Entry) → es ≡ unplugs_below (is_plugged w) k → is_plugged w k ≡ b → es ++ (if b then Unplugged k ∷ [] else []) ≡ unplugs_below (is_plugged w) (suc k)
told_more w k b es told is =
    ap (λ l. l ++ (if b then Unplugged k ∷ [] else [])) told ∙ ap (λ x. unplugs_below (is_plugged w) k ++ (if x then Unplugged k ∷ [] else [])) (sym is)

opened_by : {X : Type 0} (rules : Semantics X) (first before after : Config X) (k : ℕ) (es es' : List Entry) (b : Bool) → IsOpened rules first k before es → is_plugged before.core.world k ≡ b → UnpluggedBy b rules before after k es es' → IsOpened rules first (suc k) after es'
opened_by {X} rules first before after k es es' true so plugged did =
    let happened = stepped rules before after (Unplug k) seen.Unplugged did.0
    in record {
      unplugged = one_more first.core.world k before.core after.core so.unplugged (sym (ap (λ p. p.0.core) happened));
      legal = subst (λ l. LeadsTo rules first l after) (sym did.1) (leads_more rules first before after es (Unplugged k) seen.Unplugged so.legal did.0 refl);
      told = did.1 ∙ told_more first.core.world k true es so.told (sym (so.unplugged.rest k (omega arith)) ∙ plugged);
    }
opened_by {X} rules first before after k es es' false so free did = record {
  unplugged = subst (λ m. IsUnplugged first.core.world (suc k) m.core) (sym did.0) (none_there first.core.world k before.core so.unplugged free);
  legal = subst (λ l. LeadsTo rules first l after) (sym did.1) (subst (λ m. LeadsTo rules first es m) (sym did.0) so.legal);
  told = did.1 ∙ sym (append-nil es) ∙ told_more first.core.world k false es so.told (sym (so.unplugged.rest k (omega arith)) ∙ free);
}

-- one channel more
pub opened_more : {X : Type 0} (rules : Semantics X) (first before after : Config X) (k : ℕ) (es es' : List Entry) → IsOpened rules first k before es → UnpluggedAt rules before after k es es' → IsOpened rules first (k + 1) after es'
opened_more rules first before after k es es' so did =
    subst (λ n. IsOpened rules first n after es') (one_up k) (opened_by rules first before after k es es' (is_plugged before.core.world k) so refl did)
