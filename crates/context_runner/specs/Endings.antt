-- A run that is brought to an ending, in round order or in any.
use Rattle.std.specs.Prelude.{◌≡◌, List, ◌++◌, Some, None, Bool, true}
use Rattle.std.specs.List.{flat_map}
use mathlib.Core.List.{IsPrefix}
use Rattle.world.specs.declared.event.End.{End}
use Rattle.semantics.specs.Machine.{machine_semantics}
use Rattle.semantics.specs.Moves.{Move, entries_of, last_of, Round, RoundsTo}
use Rattle.engine_core.specs.EngineState.{config_of}
use Rattle.run_journal.specs.Histories.{RunState, IsHistory, IsIdle, run_ending, bound_of}

-- how far a run is in round order: the context of its last segment, and its pumps in a row that left nothing
abbrev pub round_at : RunState → Round
round_at r = record { last = last_of None r.entries; idle = r.idle }

-- a run went on by moves in round order; their entries stand behind those that it had
pub record WentInRounds (r r' : RunState) : Type 0 where
  pub moves : List Move
  pub entries : r'.entries ≡ r.entries ++ flat_map entries_of moves
  pub order : RoundsTo (machine_semantics r.engine.image) (config_of r.engine) (round_at r) moves (config_of r'.engine) (round_at r')

-- a run of the same image and bound went on behind its entries to an ending, where wanted by moves in round order
pub record Brought (in_rounds : Bool) (r r' : RunState) : Type 0 where
  pub image : r'.engine.image ≡ r.engine.image
  pub bound : bound_of r'.engine ≡ bound_of r.engine
  pub known : IsHistory r'.engine r'.entries
  pub quiet : IsIdle r'.engine.core r'.idle
  pub begins : IsPrefix r.entries r'.entries
  pub order : in_rounds ≡ true → WentInRounds r r'
  pub how : End
  pub ended : run_ending r'.engine.core r'.idle ≡ Some how
