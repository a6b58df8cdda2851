-- The journal of a run: its events with the steps and the end of each segment.
use Rattle.std.specs.Prelude.{◌≡◌, ℕ, List, [], ◌∷◌, Some}
use Rattle.world.specs.declared.event.Event.{Event}
use Rattle.world.specs.declared.event.Event.TheVariants as event
use Rattle.world.specs.declared.event.Seen.{Seen}
use Rattle.world.specs.declared.event.Seen.TheVariants as seen
use Rattle.world.specs.declared.event.Entry.{Entry}
use Rattle.world.specs.declared.event.Entry.TheVariants as entry
use Rattle.semantics.specs.Events.{Semantics, Config, step}

-- the event of an entry
abbrev pub event_of : Entry → Event
event_of (entry.Ran c steps end) = event.Run c
event_of (entry.Fed k word) = event.Feed k word
event_of (entry.Unplugged k) = event.Unplug k

abbrev pub ran_entry : ℕ → Seen → Entry → Entry
ran_entry c (seen.Ran s) other = entry.Ran c s.steps s.end
ran_entry c _ other = other

-- the entry of an event of which this is seen; a written one tells only its event
abbrev pub entry_seen : Entry → Seen → Entry
entry_seen (entry.Ran c steps end) s = ran_entry c s (entry.Ran c steps end)
entry_seen (entry.Fed k word) s = entry.Fed k word
entry_seen (entry.Unplugged k) s = entry.Unplugged k

-- the entries are legal from a configuration on and lead to another: one after another their events may happen, and each segment
-- has the steps and the end that its entry tells
abbrev pub LeadsTo : {X : Type 0} → Semantics X → Config X → List Entry → Config X → Type 0
LeadsTo rules m [] last = m ≡ last
LeadsTo {X} rules m (e ∷ es) last =
    (next : Config X) × (s : Seen) × (step rules m (event_of e) ≡ Some (next, s)) × (entry_seen e s ≡ e) × LeadsTo rules next es last
