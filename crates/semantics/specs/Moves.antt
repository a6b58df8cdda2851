-- A run in round order as a list of moves: the turn of the context that is next, or, where none is runnable, a pump.
use Rattle.std.specs.Prelude.{◌≡◌, ℕ, ◌+◌, ◌<◌, ◌≤◌, List, [], ◌∷◌, Option, Some, None, option_map, true}
use Rattle.world.specs.declared.event.Entry.{Entry}
use Rattle.world.specs.declared.event.Entry.TheVariants as entry
use Rattle.world.specs.declared.event.Event.TheVariants.{Run}
use Rattle.world.specs.declared.event.Seen.{Seen}
use Rattle.world.specs.declared.event.Seen.TheVariants as seen
use Rattle.world.specs.declared.event.SegmentEnd.{SegmentEnd}
use Rattle.world.specs.WorldState.{WorldState, can_feed}
use Rattle.semantics.specs.Core.{ending_of}
use Rattle.semantics.specs.Events.{Semantics, Config, fire}
use Rattle.semantics.specs.Entries.{LeadsTo}
use Rattle.semantics.specs.Rounds.{next_in_round}

-- what a run does next
pub data Move : Type 0 where
  -- a segment of a context, of so many steps, which ended so; and the channel whose port was lost by it, if any
  Turn : (context steps : ℕ) (end : SegmentEnd) (lost : Option ℕ) → Move
  -- the port of each input that can be fed is asked, in channel order, and leaves these entries
  Pump : (entries : List Entry) → Move

-- the entries of a move
abbrev pub entries_of : Move → List Entry
entries_of (Turn c steps end None) = entry.Ran c steps end ∷ []
entries_of (Turn c steps end (Some k)) = entry.Ran c steps end ∷ entry.Unplugged k ∷ []
entries_of (Pump entries) = entries

-- the last context that ran after these entries, where `last` was it before them
abbrev pub last_of : Option ℕ → List Entry → Option ℕ
last_of last [] = last
last_of last (entry.Ran c steps end ∷ es) = last_of (Some c) es
last_of last (_ ∷ es) = last_of last es

-- how far a run in round order is: the last context that ran, if any, and how many pumps in a row left nothing
pub record Round : Type 0 where
  pub last : Option ℕ
  pub idle : ℕ

abbrev pub first_round : Round
first_round = record { last = None; idle = 0 }

abbrev pub idle_behind : List Entry → ℕ → ℕ
idle_behind [] idle = idle + 1
idle_behind (e ∷ es) idle = 0

-- how far it is after a move
abbrev pub round_behind : Round → Move → Round
round_behind r (Turn c steps end lost) = record { last = Some c; idle = 0 }
round_behind r (Pump entries) = record { last = r.last; idle = idle_behind entries r.idle }

-- what a pump can leave from channel k on: for a channel at most one entry, and only where it could be fed as the pump began
abbrev pub FromPump : WorldState → ℕ → List Entry → Type 0
FromPump w k [] = Unit {0}
FromPump w k (entry.Ran c steps end ∷ es) = ⊥
FromPump w k (entry.Fed j word ∷ es) = (k ≤ j) × (can_feed w j ≡ true) × FromPump w (j + 1) es
FromPump w k (entry.Unplugged j ∷ es) = (k ≤ j) × (can_feed w j ≡ true) × FromPump w (j + 1) es

-- a channel that loses its port by a segment is that of the word that it put out
abbrev pub LostBy : Seen → Option ℕ → Type 0
LostBy (seen.Ran s) (Some k) = option_map (λ o. o.channel) s.sent ≡ Some k
LostBy _ (Some k) = ⊥
LostBy _ None = Unit {0}

-- which move comes next: a turn of the context that is next; or, where none is and there is no ending, a pump. After 1,000
-- pumps in a row that left nothing there is an ending
abbrev pub MayCome : {X : Type 0} → Semantics X → Config X → Round → Move → Type 0
MayCome rules m r (Turn c steps end lost) = (next_in_round m.core r.last ≡ Some c) × LostBy ((fire rules m (Run c)).1) lost
MayCome rules m r (Pump entries) =
    (next_in_round m.core r.last ≡ None) × (ending_of m.core ≡ None) × (r.idle < 1000) × FromPump m.core.world 0 entries

-- moves in round order lead from one configuration and round to another
abbrev pub RoundsTo : {X : Type 0} → Semantics X → Config X → Round → List Move → Config X → Round → Type 0
RoundsTo rules m r [] last round = (m ≡ last) × (r ≡ round)
RoundsTo {X} rules m r (v ∷ vs) last round =
    (next : Config X) × MayCome rules m r v × LeadsTo rules m (entries_of v) next × RoundsTo rules next (round_behind r v) vs last round
