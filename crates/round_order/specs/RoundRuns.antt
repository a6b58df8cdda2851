-- A run in round order with no port at hand, in the terms of the meanings.
use Rattle.std.specs.Prelude.{◌≡◌, List, ◌++◌, map, Some, None, Bool, true, false}
use Rattle.std.specs.List.{list_all, flat_map}
use Rattle.world.specs.declared.event.Entry.{Entry}
use Rattle.world.specs.declared.event.Seen.{Seen}
use Rattle.world.specs.declared.event.End.{End}
use Rattle.semantics.specs.Core.{ending_of}
use Rattle.semantics.specs.Events.{Semantics, Config, run}
use Rattle.semantics.specs.Entries.{event_of, LeadsTo}
use Rattle.semantics.specs.Moves.{Move, Turn, entries_of, Round, first_round, RoundsTo}
use Rattle.semantics.specs.Openings.{unplugs}

-- a turn by which no port is lost
abbrev pub is_bare_turn : Move → Bool
is_bare_turn (Turn c steps end None) = true
is_bare_turn _ = false

-- the entries are legal from one configuration to another, and their events are a run; they begin with an unplugging of each port,
-- in channel order, then come turns in round order, and the run has an ending
pub record IsRoundRun {X : Type 0} (rules : Semantics X) (before after : Config X) (entries : List Entry) (end : End) : Type 0 where
  pub legal : LeadsTo rules before entries after
  pub seen : List Seen
  pub ran : run rules before (map event_of entries) ≡ Some (after, seen)
  pub moves : List Move
  pub begins : entries ≡ unplugs before.core.world ++ flat_map entries_of moves
  pub opened : Config X
  pub opening : LeadsTo rules before (unplugs before.core.world) opened
  pub round : Round
  pub order : RoundsTo rules opened first_round moves after round
  pub turns : list_all is_bare_turn moves ≡ true
  pub ended : ending_of after.core ≡ Some end
