-- The run of an image, and its report.
use Rattle.std.proofs.Common.{◌≡◌, ℕ, zero, suc, ◌<◌, List, [], ◌∷◌, ◌++◌, Bool, true, false, Option, Some, None, Result, Ok, Err, refl, sym, ap, ◌∙◌, subst, arith}
use Rattle.std.specs.Prelude.{replicate, if◌then◌else◌, ◌||◌, ◌==◌, IfOk}
use Rattle.micro_isa.specs.declared.list.NoMemory.{NoMemory}
use Rattle.std.specs.List.{flat_map, list_all}
use Rattle.std.specs.Option.{option_or}
use Rattle.std.proofs.lemmas.Bool.{eqb-true}
use mathlib.Core.List.{IsPrefix}
use Rattle.micro_isa.specs.declared.limits.TheConstants.{MOST_CHANNELS, MOST_PORTS}
use Rattle.micro_isa.specs.declared.program.Bundle.{Bundle}
use Rattle.micro_isa.specs.declared.program.Channel.{Channel}
use Rattle.micro_isa.specs.declared.image.Image.{Image}
use Rattle.world.specs.declared.event.Entry.{Entry}
use Rattle.world.specs.declared.event.Entry.TheVariants as entry
use Rattle.world.specs.declared.event.End.{End}
use Rattle.world.specs.declared.event.End.TheVariants as ending
use Rattle.world.specs.WorldState.{WorldState, has_open_input}
use Rattle.semantics.specs.Core.{Core, shown_core, has_ended, some_runnable, ending_of}
use Rattle.semantics.specs.Events.{Config}
use Rattle.semantics.specs.Entries.{LeadsTo}
use Rattle.semantics.specs.Machine.{Machine, machine_semantics, machine_open}
use Rattle.semantics.specs.Moves.{entries_of, last_of, first_round, RoundsTo}
use Rattle.semantics.specs.Source.{source_semantics, source_open}
use Rattle.semantics.proofs.Moves.{last_of-append}
use Rattle.engine_core.specs.EngineState.{EngineState}
use Rattle.engine_core.specs.EngineState as engine
use Rattle.source_core.specs.SourceState.{SourceState}
use Rattle.source_core.specs.SourceState as source
use Rattle.round_order.specs.RoundRuns.{IsRoundRun}
use Rattle.ports.specs.SlotsState.{SlotsState}
use Rattle.run_journal.specs.Attaching.{is_missing, detaching, detached}
use Rattle.run_journal.specs.Histories.{RunState, IsHistory, IsIdle, run_ending, bound_of, channels_of}
use Rattle.run_journal.specs.Keeping.{PortsKept}
use Rattle.context_runner.specs.Benches.{IsBench}
use Rattle.context_runner.specs.Endings.{Brought, WentInRounds, round_at}
use Rattle.report_run.specs.Report.{report_text}
use Rattle.commands.specs.declared.status.Status.{Status}
use Rattle.commands.specs.declared.task.Reply.{Reply}
use Rattle.commands.specs.Openings.{IsAttached}
use Rattle.commands.specs.Reports.{IsReport, IsRunOf, IsSourceReport, IsIdleForGood, InRounds, handed_in, opening_entries, status_of, status_so_far}

-- no context ran in an opening
detached_last : (chs : List Channel) (w : WorldState) (s : SlotsState) (n : ℕ) → last_of None (detached chs w s n) ≡ None
detached_last chs w s zero = refl
detached_last chs w s (suc n) = last_of-append None (detached chs w s n) (detaching chs w s n) ∙ ap (λ o. last_of o (detaching chs w s n)) (detached_last chs w s n) ∙ by (is_missing chs w s n)
  where
    by : (b : Bool) → last_of None (if b then entry.Unplugged n ∷ [] else []) ≡ None
    by true = refl
    by false = refl

-- an engine never ends as idle
never_idle : (core : Core) → ending_of core ≡ Some ending.Idle → ⊥
never_idle core h = by core.over (list_all has_ended core.phases) (some_runnable core || has_open_input core.world) h
  where
    by : (o a r : Bool) → (if o then Some ending.Bound else (if a then Some ending.Finished else (if r then None else Some ending.Stuck))) ≡ Some ending.Idle → ⊥
    by true a r h = absurd (cc)
    by false true r h = absurd (cc)
    by false false true h = absurd (cc)
    by false false false h = absurd (cc)

-- where a run goes on though no context can, words can still come
still_open : (core : Core) → ending_of core ≡ None → some_runnable core ≡ false → has_open_input core.world ≡ true
still_open core goes none = by core.over (list_all has_ended core.phases) (has_open_input core.world) (subst (λ r. (if core.over then Some ending.Bound else (if list_all has_ended core.phases then Some ending.Finished else (if r || has_open_input core.world then None else Some ending.Stuck))) ≡ None) none goes)
  where
    by : (o a i : Bool) → (if o then Some ending.Bound else (if a then Some ending.Finished else (if i then None else Some ending.Stuck))) ≡ None → i ≡ true
    by true a i h = absurd (cc)
    by false true i h = absurd (cc)
    by false false true h = refl
    by false false false h = absurd (cc)

idle_by : (o : Option End) (b : Bool) → (o ≡ Some ending.Idle → ⊥) → option_or o (if b then Some ending.Idle else None) ≡ Some ending.Idle → (o ≡ None) × (b ≡ true)
idle_by None true never h = (refl, refl)
idle_by None false never h = absurd (cc)
idle_by (Some end) b never h = absurd (never h)

-- a run that ended idle
idle_for_good : (core : Core) (idle : ℕ) (end : End) → IsIdle core idle → run_ending core idle ≡ Some end → end ≡ ending.Idle → IsIdleForGood core idle
idle_for_good core idle end quiet ended is =
    let h = idle_by (ending_of core) (idle == 1000) (never_idle core) (ended ∙ ap Some is) in
    let pumps : idle ≡ 1000 = eqb-true idle 1000 h.1 in
    let none : some_runnable core ≡ false = quiet.none (subst (λ n. 0 < n) (sym pumps) (omega arith)) in
    record { pumps = pumps; none = none; input = still_open core h.0 none }

opened_at : (r : RunState) → IsHistory r.engine r.entries → r.entries ≡ [] → machine_open r.engine.image (bound_of r.engine) ≡ engine.config_of r.engine
opened_at r h none = subst (λ es. LeadsTo (machine_semantics r.engine.image) (machine_open r.engine.image (bound_of r.engine)) es (engine.config_of r.engine)) none h.legal

handed : (s : SlotsState) → s.retired ≡ replicate MOST_PORTS false → s ≡ handed_in s.told
handed s whole = ap (λ x. record { told = s.told; retired = x }) whole

-- its entries are those of the opening
opening_is : (r r' : RunState) (s : SlotsState) → IsAttached r r' s → r'.entries ≡ opening_entries r.engine.image (bound_of r.engine) s.told
opening_is r r' s a =
    a.entries
    ∙ ap (λ (m : Config Machine). detached (channels_of r.engine) m.core.world s MOST_CHANNELS) (sym (opened_at r a.known a.none))
    ∙ ap (λ x. detached (channels_of r.engine) (machine_open r.engine.image (bound_of r.engine)).core.world x MOST_CHANNELS) (handed s a.whole)

legal_of : (m : Image) (bound : ℕ) (e : EngineState) (es : List Entry) → e.image ≡ m → bound_of e ≡ bound → IsHistory e es → LeadsTo (machine_semantics m) (machine_open m bound) es (engine.config_of e)
legal_of m bound e es image steps h =
    subst (λ b. LeadsTo (machine_semantics m) (machine_open m b) es (engine.config_of e)) steps
    (subst (λ x. LeadsTo (machine_semantics x) (machine_open x (bound_of e)) es (engine.config_of e)) image h.legal)

first_at : (r r' : RunState) (s : SlotsState) → IsAttached r r' s → round_at r' ≡ first_round
first_at r r' s a =
    ap (λ x. record { last = last_of None x; idle = r'.idle }) a.entries
    ∙ ap (λ x. record { last = x; idle = r'.idle }) (detached_last (channels_of r.engine) r.engine.core.world s MOST_CHANNELS)
    ∙ ap (λ n. record { last = None; idle = n }) a.fresh.idle

in_rounds_is : (r r' after : RunState) (s : SlotsState) → IsAttached r r' s → WentInRounds r' after → InRounds r.engine.image (bound_of r.engine) (opening_entries r.engine.image (bound_of r.engine) s.told) after.entries (engine.config_of after.engine) after.idle
in_rounds_is r r' after s a went =
    let m = r.engine.image in
    let opening = opening_is r r' s a in
    record {
      opened = engine.config_of r'.engine;
      opens = subst (λ es. LeadsTo (machine_semantics m) (machine_open m (bound_of r.engine)) es (engine.config_of r'.engine)) opening (legal_of m (bound_of r.engine) r'.engine r'.entries a.image a.bound a.after);
      moves = went.moves;
      behind = went.entries ∙ ap (λ es. es ++ flat_map entries_of went.moves) opening;
      round = round_at after;
      order = subst (λ x. RoundsTo (machine_semantics m) (engine.config_of r'.engine) x went.moves (engine.config_of after.engine) (round_at after)) (first_at r r' s a)
          (subst (λ x. RoundsTo (machine_semantics x) (engine.config_of r'.engine) (round_at r') went.moves (engine.config_of after.engine) (round_at after)) a.image went.order);
      pumps = refl;
    }

-- a run whose ports were attached and which was brought to an ending
pub run_is : (in_rounds : Bool) (r r' after : RunState) (s s' : SlotsState) → IsAttached r r' s → (b : Brought in_rounds r' after) → IsBench s.told after s' → IsRunOf in_rounds (bound_of r.engine) r.engine.image s.told s'.told after.entries (engine.config_of after.engine) b.how
run_is in_rounds r r' after s s' a b bench =
    let m = r.engine.image in
    let image : after.engine.image ≡ m = b.image ∙ a.image in
    let bound : bound_of after.engine ≡ bound_of r.engine = b.bound ∙ a.bound in
    record {
      legal = legal_of m (bound_of r.engine) after.engine after.entries image bound b.known;
      begins = subst (λ es. IsPrefix es after.entries) (opening_is r r' s a) b.begins;
      idle = after.idle;
      order = λ wanted. in_rounds_is r r' after s a (b.order wanted);
      ended = b.ended;
      idles = idle_for_good after.engine.core after.idle b.how b.quiet b.ended;
      kept = subst (λ (x : Image). PortsKept x.setting.channels after.entries after.engine.core after.idle s.told s'.told) image bench.kept;
    }

-- and its report
pub report_is : (in_rounds : Bool) (r r' after : RunState) (s s' : SlotsState) (need : Option ℕ) (answer : Status) (text : List ℕ) → IsAttached r r' s → Brought in_rounds r' after → IsBench s.told after s' → answer ≡ status_so_far (run_ending after.engine.core after.idle) after.engine.core.phases → text ≡ report_text need (Some after.engine.image) after.engine.image.setting.channels after.entries (record { view = shown_core after.engine.core; file = Some after.engine.file; ending = run_ending after.engine.core after.idle }) → IsReport in_rounds (bound_of r.engine) r.engine.image need s.told s'.told answer text
report_is in_rounds r r' after s s' need answer text a b bench answered told = record {
  entries = after.entries;
  last = engine.config_of after.engine;
  end = b.how;
  run = run_is in_rounds r r' after s s' a b bench;
  answered = answered ∙ ap (λ o. status_so_far o after.engine.core.phases) b.ended;
  reported = told
      ∙ ap (λ (i : Image). report_text need (Some i) i.setting.channels after.entries (record { view = shown_core after.engine.core; file = Some after.engine.file; ending = run_ending after.engine.core after.idle })) (b.image ∙ a.image)
      ∙ ap (λ o. report_text need (Some r.engine.image) r.engine.image.setting.channels after.entries (record { view = shown_core after.engine.core; file = Some after.engine.file; ending = o })) b.ended;
}

-- the report of a run of sources, if there was memory for it
pub source_report_is : (result : Result Reply NoMemory) (steps : ℕ) (b : Bundle) (after : SourceState) (entries : List Entry) (end : End) → IsRoundRun (source_semantics b) (source_open b steps) (source.config_of after) entries end → IfOk result (λ r. r.status ≡ status_of end after.core.phases) → IfOk result (λ r. r.text.items ≡ report_text None None b.setting.channels entries (record { view = shown_core after.core; file = None; ending = Some end })) → IfOk result (λ r. IsSourceReport steps b r.status r.text.items)
source_report_is (Ok r) steps b after entries end run answered told =
    record { entries = entries; last = source.config_of after; end = end; run = run; answered = answered; reported = told }
source_report_is (Err why) steps b after entries end run answered told = tt
