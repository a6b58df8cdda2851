-- What the journal of a run in round order has come to, turn by turn.
use Rattle.std.specs.Prelude.{◌≡◌, ℕ, ◌<◌, List, [], ◌∷◌, ◌++◌, Bool, true, false, Option, Some}
use Rattle.std.specs.Option.{ForSome}
use Rattle.std.specs.List.{list_all, flat_map}
use Rattle.micro_isa.specs.declared.limits.TheConstants.{MOST_CONTEXTS}
use Rattle.world.specs.declared.event.Event.TheVariants.{Unplug}
use Rattle.world.specs.declared.event.Entry.{Entry}
use Rattle.world.specs.declared.event.Entry.TheVariants.{Ran, Unplugged}
use Rattle.world.specs.declared.event.Seen.{Seen}
use Rattle.world.specs.declared.event.Seen.TheVariants as seen
use Rattle.world.specs.declared.event.SegmentEnd.{SegmentEnd}
use Rattle.world.specs.declared.event.End.{End}
use Rattle.world.specs.WorldState.{has_open_input, is_plugged}
use Rattle.semantics.specs.Core.{ending_of}
use Rattle.semantics.specs.Events.{Semantics, Config, step}
use Rattle.semantics.specs.Entries.{event_of, entry_seen, LeadsTo}
use Rattle.semantics.specs.Moves.{Move, entries_of, first_round, RoundsTo}
use Rattle.semantics.specs.Openings.{unplugs_below}
use Rattle.round_order.specs.Openings.{IsUnplugged}
use Rattle.round_order.specs.RoundRuns.{is_bare_turn}

-- an event that may happen, and the entry that tells it
pub record IsTurn {X : Type 0} (rules : Semantics X) (before after : Config X) (e : Entry) : Type 0 where
  pub seen : Seen
  pub happened : step rules before (event_of e) ≡ Some (after, seen)
  pub told : entry_seen e seen ≡ e

-- a channel's port was unplugged and an entry tells it; or it was not plugged, and nothing changed
abbrev pub UnpluggedBy : {X : Type 0} → Bool → Semantics X → Config X → Config X → ℕ → List Entry → List Entry → Type 0
UnpluggedBy true rules before after k entries entries' =
    (step rules before (Unplug k) ≡ Some (after, seen.Unplugged)) × (entries' ≡ entries ++ Unplugged k ∷ [])
UnpluggedBy false rules before after k entries entries' = (after ≡ before) × (entries' ≡ entries)

abbrev pub UnpluggedAt : {X : Type 0} → Semantics X → Config X → Config X → ℕ → List Entry → List Entry → Type 0
UnpluggedAt rules before after k entries entries' = UnpluggedBy (is_plugged before.core.world k) rules before after k entries entries'

-- from the opening with the ports below `k` unplugged
pub record IsOpened {X : Type 0} (rules : Semantics X) (before : Config X) (k : ℕ) (now : Config X) (entries : List Entry) : Type 0 where
  pub unplugged : IsUnplugged before.core.world k now.core
  pub legal : LeadsTo rules before entries now
  pub told : entries ≡ unplugs_below (is_plugged before.core.world) k

-- turns in round order go on from a configuration to another, behind the entries of an opening; the last context that ran
pub record TakesTurns {X : Type 0} (rules : Semantics X) (before now : Config X) (opening entries : List Entry) (last : Option ℕ) : Type 0 where
  pub moves : List Move
  pub behind : entries ≡ opening ++ flat_map entries_of moves
  pub order : RoundsTo rules before first_round moves now (record { last = last; idle = 0 })
  pub turns : list_all is_bare_turn moves ≡ true

-- turns that go on while no word can come from outside
pub record IsRunSoFar {X : Type 0} (rules : Semantics X) (before now : Config X) (opening entries : List Entry) (last : Option ℕ) : Type 0 where
  pub gone : TakesTurns rules before now opening entries last
  pub closed : has_open_input now.core.world ≡ false
  pub small : ForSome last (λ c. c < MOST_CONTEXTS)

-- turns that went on to an ending
pub record IsJournalOn {X : Type 0} (rules : Semantics X) (before after : Config X) (opening entries : List Entry) (end : End) : Type 0 where
  pub last : Option ℕ
  pub gone : TakesTurns rules before after opening entries last
  pub ended : ending_of after.core ≡ Some end

-- an entry tells a segment of this context
abbrev pub RanAs : ℕ → Entry → Type 0
RanAs c e = (steps : ℕ) × (end : SegmentEnd) × (e ≡ Ran c steps end)
