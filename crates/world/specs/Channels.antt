-- The words of one channel, and what may be done with them.
use Rattle.std.specs.Prelude.{ℕ, List, [], ◌∷◌, ◌++◌, length, drop, Bool, true, false, ◌||◌, ◌&&◌, nat_lt, Option, Some, None}
use Rattle.world.specs.declared.channel.ChannelKind.{ChannelKind}
use Rattle.world.specs.declared.channel.ChannelKind.TheVariants.{Inner, Incoming, Outgoing}
use Rattle.world.specs.declared.channel.PortState.{PortState}
use Rattle.world.specs.declared.channel.PortState.TheVariants.{Plugged, Unplugged}

-- a channel: its kind, what became of its port, how many words its ring holds at most, the initial words that were not yet
-- received, and the words that were sent or fed and not yet received
pub record ChannelState : Type 0 where
  pub kind : ChannelKind
  pub port : PortState
  pub capacity : ℕ
  pub left : List ℕ
  pub ring : List ℕ

-- whether there is a word to receive
abbrev pub has_word : ChannelState → Bool
has_word ch = nat_lt 0 (length ch.left) || nat_lt 0 (length ch.ring)

-- whether the ring can hold one word more
abbrev pub has_room : ChannelState → Bool
has_room ch = nat_lt (length ch.ring) ch.capacity

abbrev pub takes_by : ChannelKind → Bool → Bool
takes_by Inner room = room
takes_by Incoming room = false
takes_by Outgoing room = true

-- whether a context can send to it: an output always, an inner channel while its ring has room
abbrev pub takes_word : ChannelState → Bool
takes_word ch = takes_by ch.kind (has_room ch)

abbrev pub is_incoming : ChannelKind → Bool
is_incoming Incoming = true
is_incoming _ = false

-- whether it has a port that is plugged
abbrev pub is_plug : PortState → Bool
is_plug Plugged = true
is_plug _ = false

abbrev pub has_plugged_port : ChannelState → Bool
has_plugged_port ch = is_plug ch.port

-- whether a word can be fed: an input that is plugged and whose ring has room
abbrev pub takes_feed : ChannelState → Bool
takes_feed ch = is_incoming ch.kind && has_plugged_port ch && has_room ch

-- the word that is received next: an initial one first
abbrev pub head_of : List ℕ → List ℕ → Option ℕ
head_of (w ∷ ws) ring = Some w
head_of [] (w ∷ ws) = Some w
head_of [] [] = None

-- the ring after that
abbrev pub ring_after : List ℕ → List ℕ → List ℕ
ring_after (w ∷ ws) ring = ring
ring_after [] ring = drop 1 ring

-- the channel without the word that is received next
abbrev pub without_head : ChannelState → ChannelState
without_head ch = record ch { left = drop 1 ch.left; ring = ring_after ch.left ch.ring }

-- one word more at the end of the ring
abbrev pub with_word : ℕ → ChannelState → ChannelState
with_word w ch = record ch { ring = ch.ring ++ w ∷ [] }

-- the channel after its port was unplugged
abbrev pub without_port : ChannelState → ChannelState
without_port ch = record ch { port = Unplugged }
