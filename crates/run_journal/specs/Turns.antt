-- What a turn and a pump did.
use Rattle.std.specs.Prelude.{◌≡◌, ℕ, ◌+◌, ◌≤◌, List, length, Option, Some, None, Bool, true, false, ◌||◌, if◌then◌else◌, nat_lt, ◌*◌, ◌-◌, ◌<◌}
use Rattle.std.specs.Option.{is_some}
use Rattle.micro_isa.specs.declared.limits.TheConstants.{MOST_CHANNELS}
use Rattle.world.specs.declared.event.Entry.{Entry}
use Rattle.world.specs.declared.event.Entry.TheVariants as entry
use Rattle.world.specs.declared.event.Event.TheVariants.{Run}
use Rattle.world.specs.declared.event.SegmentEnd.TheVariants as end
use Rattle.world.specs.declared.event.End.{End}
use Rattle.world.specs.Channels.{takes_feed}
use Rattle.world.specs.WorldState.{can_feed}
use Rattle.run_journal.specs.Room.{total, entries_left}
use Rattle.semantics.specs.Core.{Core, is_runnable, some_runnable, ending_of}
use Rattle.semantics.specs.Events.{Semantics, Config, fire}
use Rattle.semantics.specs.Entries.{entry_seen}
use Rattle.semantics.specs.Machine.{Machine}
use Rattle.engine_core.specs.EngineState.{EngineState}
use Rattle.ports.specs.declared.port.Polled.{Polled}
use Rattle.ports.specs.SlotsState.{SlotsState}
use Rattle.run_journal.specs.declared.answers.TurnAnswer.{TurnAnswer}
use Rattle.run_journal.specs.declared.answers.TurnAnswer.TheVariants as turn
use Rattle.run_journal.specs.declared.answers.Pumped.{Pumped}
use Rattle.run_journal.specs.Pumping.{answer_at, Asks, entries_from, asked_in, fed_in, dropped_in, one_if, words_at, ends_at}
use Rattle.run_journal.specs.Turning.{Fits}
use Rattle.run_journal.specs.Histories.{RunState, run_ending, channels_of}
use Rattle.run_journal.specs.Parts.{Went, Advanced}

abbrev pub ready_answer : Bool → Entry → ℕ → TurnAnswer
ready_answer true e n = turn.Ran e
ready_answer false e n = turn.NotReady n

abbrev pub open_answer : Option End → Bool → Entry → ℕ → TurnAnswer
open_answer (Some end) ready e n = turn.Over end
open_answer None ready e n = ready_answer ready e n

-- what a turn of a context is answered at a configuration after n entries: how the run ended, if it did; that the context cannot go on;
-- or the entry of its segment
abbrev pub turn_answer : Semantics Machine → Config Machine → ℕ → ℕ → TurnAnswer
turn_answer rules m n c =
    open_answer (ending_of m.core) (is_runnable m.core c) (entry_seen (entry.Ran c 0 end.Bound) (fire rules m (Run c)).1) n

-- where a segment ran, it and what followed it at its port; else nothing changed
abbrev pub TurnDid : TurnAnswer → RunState → RunState → SlotsState → SlotsState → ℕ → Type 0
TurnDid (turn.Ran e) r r' s s' c = Advanced r.engine r'.engine r.entries r'.entries s s' c e × (r'.idle ≡ 0)
TurnDid (turn.NotReady n) r r' s s' c = (r' ≡ r) × (s' ≡ s)
TurnDid (turn.Over end) r r' s s' c = (r' ≡ r) × (s' ≡ s)

-- the idle count after a pump: one more where no context can go on and nothing was fed or lost
abbrev pub idle_after : Core → Pumped → ℕ → ℕ
idle_after core p idle = if some_runnable core || nat_lt 0 p.fed || nat_lt 0 p.dropped then 0 else idle + 1

-- the port of each input that can be fed was asked, in channel order; what they answered
pub record Pumps (e e' : EngineState) (es es' : List Entry) (s s' : SlotsState) (p : Pumped) : Type 0 where
  pub answers : List (Option Polled)
  pub asked : (k : ℕ) → is_some (answer_at answers k) ≡ can_feed e.core.world k
  pub asks : Asks (channels_of e) e.core e'.core s.told s'.told answers MOST_CHANNELS
  pub went : Went e e' es es' (entries_from 0 answers)
  pub asked_count : p.asked ≡ asked_in answers
  pub fed_count : p.fed ≡ fed_in answers
  pub dropped_count : p.dropped ≡ dropped_in answers
  -- so many inputs could be fed
  pub asked_all : p.asked ≡ total (λ ch. one_if (takes_feed ch)) e.core.world.channels

-- a pump: nothing under an ending, also where the run is idle for good
abbrev pub PumpBy : Option End → RunState → RunState → SlotsState → SlotsState → Pumped → Type 0
PumpBy (Some end) r r' s s' p = (r' ≡ r) × (s' ≡ s) × (p ≡ record { asked = 0; fed = 0; dropped = 0 })
PumpBy None r r' s s' p =
    Pumps r.engine r'.engine r.entries r'.entries s s' p × (r'.idle ≡ idle_after r.engine.core p r.idle)

abbrev pub PumpDid : RunState → RunState → SlotsState → SlotsState → Pumped → Type 0
PumpDid r r' s s' p = PumpBy (run_ending r.engine.core r.idle) r r' s s' p

-- the counts with one answer more
abbrev pub counted : Pumped → Option Polled → Pumped
counted p a = record { asked = p.asked + one_if (is_some a); fed = p.fed + length (words_at a); dropped = p.dropped + one_if (ends_at a) }

-- the ports of the channels below n were asked so far
pub record PumpedTo (e e' : EngineState) (es es' : List Entry) (s s' : SlotsState) (p : Pumped) (n : ℕ) : Type 0 where
  pub answers : List (Option Polled)
  pub asks : Asks (channels_of e) e.core e'.core s.told s'.told answers n
  pub went : Went e e' es es' (entries_from 0 answers)
  pub asked_count : p.asked ≡ asked_in answers
  pub fed_count : p.fed ≡ fed_in answers
  pub dropped_count : p.dropped ≡ dropped_in answers
  pub fits : Fits (channels_of e') e'.core.world s'
  pub goes : e'.core.over ≡ false
  pub few : (p.asked ≤ n) × (p.fed ≤ n) × (p.dropped ≤ n)

-- what falls with every turn that runs a segment, and with every pump while no context can go on and there is no ending
abbrev pub to_come : Core → ℕ → ℕ
to_come core idle = entries_left core * 1001 + (1000 - idle)

-- a segment takes from what is to come
abbrev pub TurnLowers : TurnAnswer → RunState → RunState → Type 0
TurnLowers (turn.Ran e) r r' = to_come r'.engine.core r'.idle < to_come r.engine.core r.idle
TurnLowers _ r r' = Unit {0}

abbrev pub PumpLowers : RunState → RunState → Type 0
PumpLowers r r' =
    run_ending r.engine.core r.idle ≡ None → some_runnable r.engine.core ≡ false → to_come r'.engine.core r'.idle < to_come r.engine.core r.idle
