-- What a run did with the channel of a port, and what that port must tell.
use Rattle.std.specs.Prelude.{◌≡◌, ℕ, ◌+◌, ◌-◌, ◌^◌, ◌≤◌, min, List, [], ◌∷◌, map, filter, length, slice_get, Bool, true, false, ◌==◌, if◌then◌else◌, Option, Some, None, ◌⊎◌}
use Rattle.std.specs.List.{list_any, flat_map}
use mathlib.Core.List.{IsPrefix}
use Rattle.micro_isa.specs.declared.program.Channel.{Channel}
use Rattle.micro_isa.specs.Formed.{port_of}
use Rattle.micro_kit.specs.Streams.{Rose, Gives, Grew, IsSpent}
use Rattle.world.specs.declared.event.Entry.{Entry}
use Rattle.world.specs.declared.event.Entry.TheVariants as entry
use Rattle.world.specs.declared.event.Output.{Output}
use Rattle.world.specs.Channels.{is_incoming}
use Rattle.world.specs.WorldState.{WorldState, holds_at, is_plugged, can_feed}
use Rattle.semantics.specs.Core.{Core}
use Rattle.ports.specs.declared.told.Told.{Told}

abbrev pub port_behind : Option Channel → Option ℕ
port_behind None = None
port_behind (Some ch) = port_of ch

-- the number of the port of a channel
abbrev pub port_at : List Channel → ℕ → Option ℕ
port_at chs k = port_behind (slice_get chs k)

-- the words that an entry feeds to a channel
abbrev pub fed_one : ℕ → Entry → List ℕ
fed_one k (entry.Fed j word) = if j == k then word ∷ [] else []
fed_one k _ = []

abbrev pub fed_on : ℕ → List Entry → List ℕ
fed_on k es = flat_map (fed_one k) es

abbrev pub is_drop : ℕ → Entry → Bool
is_drop k (entry.Unplugged j) = j == k
is_drop k _ = false

-- whether an entry unplugs a channel
abbrev pub dropped_on : ℕ → List Entry → Bool
dropped_on k es = list_any (is_drop k) es

-- the words that were put out on a channel
abbrev pub put_on : ℕ → List Output → List ℕ
put_on k outputs = map (λ o. o.word) (filter (λ o. o.channel == k) outputs)

abbrev pub is_input : WorldState → ℕ → Bool
is_input w k = holds_at (λ ch. is_incoming ch.kind) (slice_get w.channels k)

-- what a run did with the channel of a port
pub record Used : Type 0 where
  pub fed : List ℕ
  pub put : List ℕ
  pub dropped : Bool
  pub incoming : Bool
  pub plugged : Bool
  pub feedable : Bool
  pub cut : Bool
  pub idle : ℕ

abbrev pub used_by : List Entry → Core → ℕ → ℕ → Used
used_by entries core idle k = record {
  fed = fed_on k entries;
  put = put_on k core.world.outputs;
  dropped = dropped_on k entries;
  incoming = is_input core.world k;
  plugged = is_plugged core.world k;
  feedable = can_feed core.world k;
  cut = core.over;
  idle = idle;
}

-- the words that a port took: the first of those that were put out on its channel, and all of them where it never failed and
-- while it is plugged and no segment was cut
pub record Took (start now : Told) (u : Used) : Type 0 where
  pub words : List ℕ
  pub grew : Grew start.taken words now.taken
  pub first : IsPrefix words u.put
  pub all : (Rose start.faults now.faults → ⊥) → words ≡ u.put
  pub still : u.incoming ≡ false → u.plugged ≡ true → u.cut ≡ false → words ≡ u.put

-- why a port was lost: it failed; or it was an input's and had no word left
abbrev pub IsLost : Told → Told → Used → Type 0
IsLost start now u =
    Rose start.faults now.faults
    ⊎ ((u.incoming ≡ true) × Rose start.polls now.polls × Rose start.closings now.closings × IsSpent now.left)

pub record Grows (start now : Told) : Type 0 where
  pub faults : start.faults ≤ now.faults
  pub polls : start.polls ≤ now.polls
  pub closings : start.closings ≤ now.closings

-- what a port told and counted at the start, and tells and counts now
pub record Kept (start now : Told) (u : Used) : Type 0 where
  pub gave : Gives start.left u.fed now.left
  pub took : Took start now u
  pub lost : u.dropped ≡ true → IsLost start now u
  pub gone : u.plugged ≡ false → u.dropped ≡ true
  pub polled : u.feedable ≡ true → min (start.polls + u.idle) (2 ^ 64 - 1) ≤ now.polls
  pub unharmed : u.incoming ≡ true → u.plugged ≡ true → (now.faults ≡ start.faults) × (now.closings ≡ start.closings)
  pub grows : Grows start now

abbrev pub NoChannelHas : List Channel → ℕ → Type 0
NoChannelHas chs j = (k : ℕ) → port_at chs k ≡ Some j → ⊥

-- what the ports told at the start, and what they tell now, after these entries led here
pub record PortsKept (chs : List Channel) (entries : List Entry) (core : Core) (idle : ℕ) (start now : List Told) : Type 0 where
  pub as_many : length now ≡ length start
  pub named : (k j : ℕ) (a b : Told) → port_at chs k ≡ Some j → slice_get start j ≡ Some a → slice_get now j ≡ Some b → Kept a b (used_by entries core idle k)
  pub others : (j : ℕ) → NoChannelHas chs j → slice_get now j ≡ slice_get start j
