-- What the parts of a turn and of a pump do to an engine, its entries and its ports.
use Rattle.std.specs.Prelude.{◌≡◌, ℕ, List, ◌∷◌, ◌++◌, Option, Some, None, Bool, true, slice_set, if◌then◌else◌, length, ◌+◌, ◌≤◌}
use Rattle.std.specs.Option.{is_some}
use Rattle.world.specs.declared.event.Entry.{Entry}
use Rattle.world.specs.declared.event.Entry.TheVariants as entry
use Rattle.world.specs.declared.event.Event.TheVariants.{Run}
use Rattle.world.specs.declared.event.Seen.TheVariants as seen
use Rattle.world.specs.declared.event.Segment.{Segment}
use Rattle.world.specs.declared.event.Output.{Output}
use Rattle.world.specs.WorldState.{can_feed}
use Rattle.semantics.specs.Core.{illegal_of}
use Rattle.semantics.specs.Events.{Config, fire}
use Rattle.semantics.specs.Entries.{LeadsTo}
use Rattle.semantics.specs.Machine.{Machine, machine_semantics}
use Rattle.engine_core.specs.EngineState.{EngineState, config_of}
use Rattle.ports.specs.declared.port.Polled.{Polled}
use Rattle.ports.specs.SlotsState.{SlotsState}
use Rattle.ports.specs.Tales.{Polls, ends, Changes}
use Rattle.run_journal.specs.Pumping.{answered, after_answer, PortOf}
use Rattle.run_journal.specs.declared.answers.Delivery.{Delivery}
use Rattle.run_journal.specs.Turning.{Fits, delivery, Delivers, LeftBy, HandedOver}
use Rattle.run_journal.specs.Room.{entries_left}
use Rattle.run_journal.specs.Histories.{IsHistory, bound_of, channels_of}

-- these entries lead from one configuration of an engine to another, and stand behind those before them
pub record Went (e e' : EngineState) (es es' own : List Entry) : Type 0 where
  pub image : e'.image ≡ e.image
  pub bound : bound_of e' ≡ bound_of e
  pub known : IsHistory e' es'
  pub entries : es' ≡ es ++ own
  pub leads : LeadsTo (machine_semantics e.image) (config_of e) own (config_of e')
  -- each took one of the entries that were left
  pub left : entries_left e'.core + length own ≤ entries_left e.core

-- a channel is unplugged and its port retired, where it is lost; what is told stays
pub record LosesWhere (lost : Bool) (e e' : EngineState) (es es' : List Entry) (slots slots' : SlotsState) (d : Delivery) : Type 0 where
  pub own : List Entry
  pub went : Went e e' es es' own
  pub left : LeftBy lost e.core e'.core slots slots' d own

-- a word is handed to its port
pub record HandsOver (e e' : EngineState) (es es' : List Entry) (slots slots' : SlotsState) (d : Delivery) : Type 0 where
  pub own : List Entry
  pub went : Went e e' es es' own
  pub handed : HandedOver e.core e'.core slots slots' d own

-- what follows a segment at the port of the word that it put out
pub record Delivered (e e' : EngineState) (es es' : List Entry) (slots slots' : SlotsState) (sent : Option Output) : Type 0 where
  pub lost : List Entry
  pub went : Went e e' es es' lost
  pub delivers : Delivers (delivery (channels_of e) e.core.world sent) e.core e'.core slots slots' lost

-- a segment of a context, and what follows it at a port
pub record Advanced (e e' : EngineState) (es es' : List Entry) (slots slots' : SlotsState) (context : ℕ) (told : Entry) : Type 0 where
  pub segment : Segment
  pub middle : Config Machine
  pub may : illegal_of e.core (Run context) ≡ None
  pub ran : fire (machine_semantics e.image) (config_of e) (Run context) ≡ (middle, seen.Ran segment)
  pub tells : told ≡ entry.Ran context segment.steps segment.end
  pub lost : List Entry
  pub went : Went e e' es es' (told ∷ lost)
  pub delivers : Delivers (delivery (channels_of e) middle.core.world segment.sent) middle.core e'.core slots slots' lost

-- which ports are retired after an answer
abbrev pub retired_after : Polled → List Bool → ℕ → List Bool
retired_after r retired j = if ends r then slice_set retired j true else retired

-- an answer is done: a word is fed, or the channel is unplugged and its port retired
pub record TakesAnswer (e e' : EngineState) (es es' : List Entry) (s s' : SlotsState) (channel port : ℕ) (r : Polled) : Type 0 where
  pub went : Went e e' es es' (answered channel (Some r))
  pub core : e'.core ≡ record e.core { world = after_answer (Some r) e.core.world channel }
  pub told : s'.told ≡ s.told
  pub retired : s'.retired ≡ retired_after r s.retired port

-- a port is asked, and its answer is done
pub record Answers (e e' : EngineState) (es es' : List Entry) (s s' : SlotsState) (channel port : ℕ) (r : Polled) : Type 0 where
  pub told : Changes (λ a b. Polls a r b) s.told port s'.told
  pub went : Went e e' es es' (answered channel (Some r))
  pub core : e'.core ≡ record e.core { world = after_answer (Some r) e.core.world channel }
  pub retired : s'.retired ≡ retired_after r s.retired port

-- the port of a channel is asked, where it can be fed
pub record AsksOne (e e' : EngineState) (es es' : List Entry) (s s' : SlotsState) (channel : ℕ) (answer : Option Polled) : Type 0 where
  pub asked : is_some answer ≡ can_feed e.core.world channel
  pub port : PortOf (channels_of e) answer channel s.told s'.told
  pub went : Went e e' es es' (answered channel answer)
  pub core : e'.core ≡ record e.core { world = after_answer answer e.core.world channel }
  pub fits : Fits (channels_of e') e'.core.world s'
