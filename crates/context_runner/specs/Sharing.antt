-- A run that callers share, and what each call tells of it: one legal history, which begins with all that the pass had seen.
use Rattle.std.specs.Prelude.{◌≡◌, ℕ, ◌+◌, ◌-◌, ◌≤◌, Option, ◌++◌, List, [], ◌∷◌, length, Some, None, Bool, true, false}
use mathlib.Core.List.{IsPrefix}
use Rattle.world.specs.declared.event.End.{End}
use Rattle.world.specs.declared.event.Entry.{Entry}
use Rattle.world.specs.declared.event.Entry.TheVariants as entry
use Rattle.world.specs.declared.event.Event.TheVariants.{Run}
use Rattle.world.specs.declared.event.Seen.{Seen}
use Rattle.world.specs.Channels.{takes_feed}
use Rattle.ports.specs.declared.told.Told.{Told}
use Rattle.ports.specs.SlotsState.{SlotsState}
use Rattle.semantics.specs.Core.{Core, ending_of}
use Rattle.semantics.specs.Events.{Config, fire}
use Rattle.semantics.specs.Entries.{LeadsTo}
use Rattle.semantics.specs.Moves.{LostBy, FromPump}
use Rattle.semantics.specs.Machine.{Machine, machine_semantics, machine_open}
use Rattle.engine_core.specs.EngineState.{config_of}
use Rattle.run_journal.specs.declared.answers.TurnAnswer.{TurnAnswer}
use Rattle.run_journal.specs.declared.answers.TurnAnswer.TheVariants as turn
use Rattle.run_journal.specs.declared.answers.Pumped.{Pumped}
use Rattle.run_journal.specs.Histories.{RunState, IsHistory, IsIdle, run_ending, bound_of}
use Rattle.run_journal.specs.Room.{total}
use Rattle.run_journal.specs.Pumping.{one_if}
use Rattle.run_journal.specs.Turns.{turn_answer}
use Rattle.baton.specs.declared.view.View.{View}
use Rattle.baton.specs.Views.{numbered}
use Rattle.context_runner.specs.Benches.{IsBench}
use Rattle.context_runner.specs.declared.beginning.Beginning.{Beginning}

-- a run with its ports, and what these told when they were handed in
pub record BenchState : Type 0 where
  pub run : RunState
  pub slots : SlotsState
  pub start : List Told

-- what a shared run began with: its image, its bound, and what its ports told
abbrev pub beginning : BenchState → Beginning
beginning b = record { image = b.run.engine.image; bound = bound_of b.run.engine; start = b.start }

-- what a pass of a shared run knows
abbrev pub Knows : Type 0
Knows = View Entry Beginning

-- the unplugging of a channel, if any
abbrev pub lost_at : Option ℕ → List Entry
lost_at None = []
lost_at (Some k) = entry.Unplugged k ∷ []

-- the entries of a turn by its answer, where its event was seen so: that of its segment and, where the port of the word that it put out
-- was lost, the unplugging of that word's channel; none where no segment ran
abbrev pub OwnOf : Seen → TurnAnswer → List Entry → Type 0
OwnOf did (turn.Ran e) own = (lost : Option ℕ) × LostBy did lost × (own ≡ e ∷ lost_at lost)
OwnOf did (turn.NotReady n) own = own ≡ []
OwnOf did (turn.Over end) own = own ≡ []

abbrev pub is_fed : Entry → Bool
is_fed (entry.Fed k word) = true
is_fed _ = false

abbrev pub is_unplugged : Entry → Bool
is_unplugged (entry.Unplugged k) = true
is_unplugged _ = false

-- how many ports a pump asked: none under an ending, nor where 1,000 pumps in a row had left nothing, so that no context can go on;
-- else that of each input that can be fed
pub data AskedBy (core : Core) (asked : ℕ) : Type 0 where
  ended : (how : End) → ending_of core ≡ Some how → asked ≡ 0 → AskedBy core asked
  idle : IsIdle core 1000 → asked ≡ 0 → AskedBy core asked
  open_inputs : ending_of core ≡ None → asked ≡ total (λ ch. one_if (takes_feed ch)) core.world.channels → AskedBy core asked

-- what a pump that answered so left, where this was the engine: so many words that were fed and so many ports that were lost, each for
-- another input that could be fed, in channel order, and at most one for each that was asked
pub record PumpLeft (core : Core) (p : Pumped) (own : List Entry) : Type 0 where
  pub asked : AskedBy core p.asked
  pub from : FromPump core.world 0 own
  pub fed : p.fed ≡ total (λ e. one_if (is_fed e)) own
  pub dropped : p.dropped ≡ total (λ e. one_if (is_unplugged e)) own
  pub others : length own ≡ p.fed + p.dropped
  pub few : length own ≤ p.asked

-- a turn of a run: what it answered where its history led, and its own entries
pub record Turned (answer : TurnAnswer) (r r' : RunState) (context : ℕ) : Type 0 where
  pub known : IsHistory r.engine r.entries
  pub answered : answer ≡ turn_answer (machine_semantics r.engine.image) (config_of r.engine) (length r.entries) context
  pub own : List Entry
  pub entries : r'.entries ≡ r.entries ++ own
  pub legal : LeadsTo (machine_semantics r.engine.image) (config_of r.engine) own (config_of r'.engine)
  pub which : OwnOf (fire (machine_semantics r.engine.image) (config_of r.engine) (Run context)).1 answer own

-- a pump of a run
pub record PumpedOn (p : Pumped) (r r' : RunState) : Type 0 where
  pub known : IsHistory r.engine r.entries
  pub own : List Entry
  pub entries : r'.entries ≡ r.entries ++ own
  pub legal : LeadsTo (machine_semantics r.engine.image) (config_of r.engine) own (config_of r'.engine)
  pub left : PumpLeft r.engine.core p own

-- the pass has seen one legal history of a run of this beginning, which begins with all that it had seen, and which leads here,
-- with these entries at its end: they are legal there, and its own
pub record SeesAfter (o : Beginning) (before after : Knows) (history own : List Entry) (here : Config Machine) : Type 0 where
  pub begins : IsPrefix before.seen history
  pub leads : LeadsTo (machine_semantics o.image) (machine_open o.image o.bound) history here
  pub there : Config Machine
  pub legal : LeadsTo (machine_semantics o.image) here own there
  pub ends : after.seen ≡ history ++ own
  pub mine : after.mine ≡ before.mine ++ numbered (length history) own
  pub number : after.number ≡ before.number
  pub looks : after.looks ≡ before.looks

-- a turn of the context of this pass, where the history leads
pub record TurnTold (o : Beginning) (answer : TurnAnswer) (before after : Knows) : Type 0 where
  pub history : List Entry
  pub here : Config Machine
  pub own : List Entry
  pub sees : SeesAfter o before after history own here
  pub answered : answer ≡ turn_answer (machine_semantics o.image) here (length history) (before.number - 1)
  pub which : OwnOf (fire (machine_semantics o.image) here (Run (before.number - 1))).1 answer own

-- a pump where the history leads
pub record PumpTold (o : Beginning) (p : Pumped) (before after : Knows) : Type 0 where
  pub history : List Entry
  pub here : Config Machine
  pub own : List Entry
  pub sees : SeesAfter o before after history own here
  pub left : PumpLeft here.core p own

-- the pass took the run, which had this history, once no other pass held it
pub record HasTaken (before after : Knows) (history : List Entry) : Type 0 where
  pub begins : IsPrefix before.seen history
  pub seen : after.seen ≡ history
  pub mine : after.mine ≡ before.mine
  pub number : after.number ≡ before.number
  pub looks : after.looks ≡ before.looks

-- a shared run of this beginning, with its ports, came to an ending
pub record Ended (o : Beginning) (r : RunState) (s : SlotsState) : Type 0 where
  pub image : r.engine.image ≡ o.image
  pub bound : bound_of r.engine ≡ o.bound
  pub known : IsHistory r.engine r.entries
  pub quiet : IsIdle r.engine.core r.idle
  pub how : End
  pub ended : run_ending r.engine.core r.idle ≡ Some how
  pub bench : IsBench o.start r s
