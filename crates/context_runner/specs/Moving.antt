-- One move of a run in round order, and how far its moves have come.
use Rattle.std.specs.Prelude.{◌≡◌, ◌<◌, ℕ, List, ◌++◌, Option, Some, None}
use Rattle.std.specs.Option.{ForSome}
use Rattle.micro_isa.specs.declared.limits.TheConstants.{MOST_CONTEXTS}
use Rattle.world.specs.declared.event.Entry.{Entry}
use Rattle.world.specs.declared.event.Entry.TheVariants as entry
use Rattle.ports.specs.declared.told.Told.{Told}
use Rattle.ports.specs.SlotsState.{SlotsState}
use Rattle.semantics.specs.Entries.{LeadsTo}
use Rattle.semantics.specs.Machine.{machine_semantics}
use Rattle.semantics.specs.Moves.{Move, entries_of, last_of, round_behind, MayCome}
use Rattle.engine_core.specs.EngineState.{config_of}
use Rattle.run_journal.specs.Turning.{Fits}
use Rattle.run_journal.specs.Histories.{RunState, bound_of, channels_of}
use Rattle.context_runner.specs.Benches.{IsBench}
use Rattle.context_runner.specs.Endings.{round_at, WentInRounds}

-- the context whose segment an entry tells
abbrev pub context_of : Entry → Option ℕ
context_of (entry.Ran c steps end) = Some c
context_of _ = None

-- the move that comes next was made
pub record Moved (r r' : RunState) : Type 0 where
  pub move : Move
  pub entries : r'.entries ≡ r.entries ++ entries_of move
  pub may : MayCome (machine_semantics r.engine.image) (config_of r.engine) (round_at r) move
  pub leads : LeadsTo (machine_semantics r.engine.image) (config_of r.engine) (entries_of move) (config_of r'.engine)
  pub idle : r'.idle ≡ (round_behind (round_at r) move).idle

-- what stays through a move: the image, the bound, and that the ports are those of a bench
pub record Stays (r r' : RunState) (s s' : SlotsState) : Type 0 where
  pub image : r'.engine.image ≡ r.engine.image
  pub bound : bound_of r'.engine ≡ bound_of r.engine
  pub bench : (start : List Told) → IsBench start r s → IsBench start r' s'

-- the last context that ran, which is one of those that an image can have
pub record IsLast (r : RunState) (last : Option ℕ) : Type 0 where
  pub is : last ≡ last_of None r.entries
  pub small : ForSome last (λ c. c < MOST_CONTEXTS)

-- so far moves in round order were made
pub record MovedTo (r r' : RunState) (s s' : SlotsState) (last : Option ℕ) : Type 0 where
  pub went : WentInRounds r r'
  pub stays : Stays r r' s s'
  pub fits : Fits (channels_of r'.engine) r'.engine.core.world s'
  pub latest : IsLast r' last
