-- How many entries a run can still have.
use Rattle.std.specs.Prelude.{ℕ, ◌+◌, ◌*◌, ◌-◌, List, [], ◌∷◌, length, if◌then◌else◌}
use Rattle.world.specs.declared.event.Phase.{Phase}
use Rattle.world.specs.declared.event.Phase.TheVariants.{Receiving}
use Rattle.world.specs.Channels.{ChannelState, has_plugged_port}
use Rattle.world.specs.WorldState.{is_open_input}
use Rattle.semantics.specs.Core.{Core, steps_left}
use Rattle.run_journal.specs.declared.room.TheConstants.{ENTRIES_BESIDE}

-- the sum of a number of each item
abbrev pub total : {A : Type 0} → (A → ℕ) → List A → ℕ
total f [] = 0
total f (x ∷ xs) = f x + total f xs

-- the entries that a channel can still have by itself: one for each word that its ring has room for, where words can come, and
-- one for its unplugging
abbrev pub room_in : ChannelState → ℕ
room_in ch = (if is_open_input ch then ch.capacity - length ch.ring else 0) + (if (has_plugged_port ch) then 1 else 0)

-- a context that waits for a word can make room for one more
abbrev pub receives : Phase → ℕ
receives (Receiving k) = 1
receives _ = 0

-- the entries that a run can still have
abbrev pub entries_left : Core → ℕ
entries_left core =
    if core.over then 0 else 1 + 2 * steps_left core + total room_in core.world.channels + total receives core.phases

-- the entries that a run under a bound can have: for each step a segment and the word that it makes room for, and those beside
abbrev pub most_entries : ℕ → ℕ
most_entries bound = 2 * bound + ENTRIES_BESIDE
